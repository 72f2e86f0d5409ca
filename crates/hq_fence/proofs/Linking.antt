-- Where fences that are found lead.
use Rattle.std.proofs.Common.{◌≡◌, ℕ, inl, inr, sym, subst}
use Rattle.hq_model.specs.Job.{Job, packet, IsPacket}
use Rattle.hq_model.specs.Order.{Before}
use Rattle.hq_model.specs.Order.Before.{through}
use Rattle.hq_model.specs.Fence.{need, SameOrBefore}
use Rattle.hq_packet.specs.declared.packet.Scope.TheVariants as scope
use Rattle.hq_fence.specs.Judgement.{begin_of, end_of, first_of, IsRelease, IsAcquire}
use Rattle.hq_fence.specs.Asking.{IsReleaseIn, IsAcquireIn, EndsWith, Answers}
use Rattle.hq_fence.specs.declared.search.Ending.{Ending}
use Rattle.hq_fence.specs.declared.search.Ending.TheVariants as ending
use Rattle.hq_fence.specs.declared.search.Form.{Form}
use Rattle.hq_fence.specs.declared.search.Form.TheVariants as form
use Rattle.hq_fence.specs.declared.search.Goal.{Goal}
use Rattle.hq_fence.specs.declared.search.Goal.TheVariants as goal
use Rattle.hq_fence.specs.declared.shown.Acquire.{Acquire}
use Rattle.hq_fence.specs.declared.shown.Acquire.TheVariants as acquire
use Rattle.hq_fence.specs.declared.shown.Release.{Release}
use Rattle.hq_fence.specs.declared.shown.Release.TheVariants as release

-- what is before a packet is before all that is the same or comes after
pub before_same : (job : Job) (p m r : ℕ) → Before job p m → SameOrBefore job m r → Before job p r
before_same job p m r b s = elim s [ inl same ↦ subst (Before job p) same b | inr after ↦ through b after ]

-- what acquires for r is r or comes before it
pub acquire_before : (job : Job) (p r : ℕ) (fences : Acquire) → IsAcquire job p r fences → SameOrBefore job (first_of fences) r
acquire_before job p r (acquire.Alone y) a = a.before
acquire_before job p r (acquire.Chained y2 y) a = inr (before_same job y2 y r a.2 a.3.before)

pub any_acquire : (job : Job) (p r : ℕ) (form : Form) (fences : Acquire) → IsAcquireIn job p r form fences → IsAcquire job p r fences
any_acquire job p r form.Plain (acquire.Alone y) a = a
any_acquire job p r form.Plain (acquire.Chained y2 y) a = absurd a
any_acquire job p r form.Any fences a = a

pub any_release : (job : Job) (p r : ℕ) (form : Form) (fences : Release) → IsReleaseIn job p r form fences → IsRelease job p r fences
any_release job p r form.Plain (release.Alone x) a = a
any_release job p r form.Plain (release.Chained x x2) a = absurd a
any_release job p r form.Any fences a = a

-- all that is asked for comes before r or is r
pub ends_before : (job : Job) (p r : ℕ) (form : Form) (goal : Goal) (other : ℕ) (end : Ending) → EndsWith job p r form goal other end → Before job other r
ends_before job p r form goal.Second other ending.Second e = e
ends_before job p r form goal.Second other (ending.Acquired fences) e = absurd e
ends_before job p r form goal.Acquire other ending.Second e = absurd e
ends_before job p r form goal.Acquire other (ending.Acquired fences) e =
    before_same job other (first_of fences) r e.after (acquire_before job p r fences (any_acquire job p r form fences e.acquire))

-- a release begins in p's queue
pub begins_there : (job : Job) (p r : ℕ) (fences : Release) → IsRelease job p r fences → IsPacket job (begin_of fences) × ((packet job (begin_of fences)).queue ≡ (packet job p).queue)
begins_there job p r (release.Alone x) a = (a.fence.is_packet, a.fence.queue)
begins_there job p r (release.Chained x x2) a = (a.1.fence.is_packet, a.1.fence.queue)

-- where system scope isn't needed, there are plain forms alone
pub plain_acquire : (job : Job) (p r : ℕ) (fences : Acquire) → (need job p r ≡ scope.System → ⊥) → IsAcquire job p r fences → IsAcquireIn job p r form.Plain fences
plain_acquire job p r (acquire.Alone y) not a = a
plain_acquire job p r (acquire.Chained y2 y) not a = not a.0

pub plain_release : (job : Job) (p r : ℕ) (fences : Release) → (need job p r ≡ scope.System → ⊥) → IsRelease job p r fences → IsReleaseIn job p r form.Plain fences
plain_release job p r (release.Alone x) not a = a
plain_release job p r (release.Chained x x2) not a = not a.0

pub plain_end : (job : Job) (p r : ℕ) (goal : Goal) (other : ℕ) (end : Ending) → (need job p r ≡ scope.System → ⊥) → EndsWith job p r form.Any goal other end → EndsWith job p r form.Plain goal other end
plain_end job p r goal.Second other ending.Second not e = e
plain_end job p r goal.Second other (ending.Acquired fences) not e = e
plain_end job p r goal.Acquire other ending.Second not e = e
plain_end job p r goal.Acquire other (ending.Acquired fences) not e = record { acquire = plain_acquire job p r fences not e.acquire; after = e.after }

pub plain_answer : (job : Job) (p r : ℕ) (in_form : Form) (goal : Goal) (fences : Release) (end : Ending) → in_form ≡ form.Plain → (need job p r ≡ scope.System → ⊥) → Answers job p r form.Any goal fences end → Answers job p r in_form goal fences end
plain_answer job p r in_form goal fences end plain not a =
    subst (λ f. Answers job p r f goal fences end) (sym plain)
    (record { release = plain_release job p r fences not a.release; ends = plain_end job p r goal (end_of fences) end not a.ends })

-- and ends with a packet
pub ends_there : (job : Job) (p r : ℕ) (fences : Release) → IsRelease job p r fences → IsPacket job (end_of fences)
ends_there job p r (release.Alone x) a = a.fence.is_packet
ends_there job p r (release.Chained x x2) a = a.3.is_packet

-- ---- what comes after a release comes after p

earlier_before : (job : Job) (p m r : ℕ) → SameOrBefore job p m → Before job m r → Before job p r
earlier_before job p m r s b = elim s [ inl same ↦ subst (λ q. Before job q r) (sym same) b | inr ahead ↦ through ahead b ]

ends_earlier : (job : Job) (p r : ℕ) (form : Form) (goal : Goal) (q m : ℕ) (end : Ending) → SameOrBefore job q m → EndsWith job p r form goal m end → EndsWith job p r form goal q end
ends_earlier job p r form goal.Second q m ending.Second s e = earlier_before job q m r s e
ends_earlier job p r form goal.Second q m (ending.Acquired fences) s e = e
ends_earlier job p r form goal.Acquire q m ending.Second s e = e
ends_earlier job p r form goal.Acquire q m (ending.Acquired fences) s e = record { acquire = e.acquire; after = earlier_before job q m (first_of fences) s e.after }

ends_after : (job : Job) (p r : ℕ) (fences : Release) → IsRelease job p r fences → SameOrBefore job p (end_of fences)
ends_after job p r (release.Alone x) a = a.after
ends_after job p r (release.Chained x x2) a = inr (earlier_before job p x x2 a.1.after a.2)

pub ends_from_first : (job : Job) (p r : ℕ) (form : Form) (goal : Goal) (fences : Release) (end : Ending) → Answers job p r form goal fences end → EndsWith job p r form goal p end
ends_from_first job p r form goal fences end a = ends_earlier job p r form goal p (end_of fences) end (ends_after job p r fences (any_release job p r form fences a.release)) a.ends
