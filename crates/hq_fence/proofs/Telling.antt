-- What is found, and what isn't, in the model's words.
use Rattle.std.proofs.Common.{◌≡◌, ℕ, ◌↔◌, refl, sym, ◌∙◌, subst, true, false, IsTrue, Some, None, Ok, Err}
use Rattle.std.specs.Prelude.{Result, IfOk, IfErr, IsOk, Option, IfSome, IsSome}
use Rattle.hq_model.specs.Job.{Job}
use Rattle.hq_model.specs.Order.{Before}
use Rattle.hq_model.specs.Fence as model
use Rattle.hq_model.specs.Fence.{ReleasedBefore, ReleasedToAcquire, Conflicts}
use Rattle.hq_model.specs.Fence.Release.{alone as alone_release, chained as chained_release}
use Rattle.hq_model.specs.Fence.Acquire.{alone as alone_acquire, chained as chained_acquire}
use Rattle.hq_fence.specs.Judgement.{begin_of, end_of, first_of, IsRelease, IsAcquire, ReleasesBefore, ReleasesToAcquire, Shows, IsNotShown, conflict_of, flag_of, IsFirstKind}
use Rattle.hq_footprint.specs.declared.conflicts.Kinds.{Kinds}
use Rattle.hq_job.specs.Conflicts.{HasConflicts}
use Rattle.hq_model.proofs.Fences.{shown_is_before}
use Rattle.hq_finding.specs.declared.kind.Kind.{Kind}
use Rattle.hq_finding.specs.declared.why.Why.TheVariants as why
use Rattle.hq_fence.specs.Asking.{Answers}
use Rattle.hq_fence.specs.declared.search.Ending.{Ending}
use Rattle.hq_fence.specs.declared.search.Ending.TheVariants as ending
use Rattle.hq_fence.specs.declared.search.Form.TheVariants as form
use Rattle.hq_fence.specs.declared.search.Goal.{Goal}
use Rattle.hq_fence.specs.declared.search.Goal.TheVariants as goal
use Rattle.hq_fence.specs.declared.search.Search.{Search}
use Rattle.hq_fence.specs.declared.shown.Acquire.{Acquire}
use Rattle.hq_fence.specs.declared.shown.Acquire.TheVariants as acquire
use Rattle.hq_fence.specs.declared.shown.Release.{Release}
use Rattle.hq_fence.specs.declared.shown.Release.TheVariants as release
use Rattle.hq_fence.specs.declared.shown.Shown.{Shown}
use Rattle.hq_fence.specs.declared.shown.NotShown.{NotShown}
use Rattle.hq_finding.specs.declared.kind.Kind.TheVariants as kind

-- the last packet of an acquire
last_of : Acquire → ℕ
last_of (acquire.Alone y) = y
last_of (acquire.Chained y2 y) = y

-- ---- both ways between the fences found and the model's

model_release : (job : Job) (p r : ℕ) (fences : Release) → IsRelease job p r fences → model.Release job p r (begin_of fences) (end_of fences)
model_release job p r (release.Alone x) a = alone_release refl a
model_release job p r (release.Chained x x2) a = chained_release a.0 a.1 a.2 a.3

model_acquire : (job : Job) (p r : ℕ) (fences : Acquire) → IsAcquire job p r fences → model.Acquire job p r (first_of fences) (last_of fences)
unfolding last_of
model_acquire job p r (acquire.Alone y) a = alone_acquire refl a
model_acquire job p r (acquire.Chained y2 y) a = chained_acquire a.0 a.1 a.2 a.3

pub record IsReleaseTo (job : Job) (p r x2 : ℕ) : Type 0 where
  pub fences : Release
  pub release : IsRelease job p r fences
  pub ends : end_of fences ≡ x2

pub record IsAcquireFrom (job : Job) (p r y2 : ℕ) : Type 0 where
  pub fences : Acquire
  pub acquire : IsAcquire job p r fences
  pub begins : first_of fences ≡ y2

from_release : (job : Job) (p r x x2 : ℕ) → model.Release job p r x x2 → IsReleaseTo job p r x2
from_release job p r x x2 (alone_release e a) = record { fences = release.Alone x; release = a; ends = e }
from_release job p r x x2 (chained_release n a b f) = record { fences = release.Chained x x2; release = (n, a, b, f); ends = refl }

from_acquire : (job : Job) (p r y2 y : ℕ) → model.Acquire job p r y2 y → IsAcquireFrom job p r y2
from_acquire job p r y2 y (alone_acquire e a) = record { fences = acquire.Alone y; acquire = a; begins = sym e }
from_acquire job p r y2 y (chained_acquire n f b a) = record { fences = acquire.Chained y2 y; acquire = (n, f, b, a); begins = refl }

-- ---- what is found

pub is_released : (job : Job) (p r : ℕ) (fences : Release) → ReleasesBefore job p r fences → ReleasedBefore job p r
is_released job p r fences a = (begin_of fences, end_of fences, model_release job p r fences a.release, a.before)

pub is_acquired : (job : Job) (p r : ℕ) (fences : Release × Acquire) → ReleasesToAcquire job p r fences → ReleasedToAcquire job p r
is_acquired job p r fences a =
    (begin_of fences.0, end_of fences.0, first_of fences.1, last_of fences.1, model_release job p r fences.0 a.release, a.between, model_acquire job p r fences.1 a.acquire)

-- ---- what isn't

pub unanswered :
    (s : Search) (job : Job) (p r : ℕ) (g : Goal) → s.before.now ≡ job → s.p ≡ p → s.r ≡ r → s.goal ≡ g
    → ((fences : Release) (end : Ending) → Answers s.before.now s.p s.r form.Any s.goal fences end → ⊥)
    → (fences : Release) (end : Ending) → Answers job p r form.Any g fences end → ⊥
unanswered s job p r g j pe re ge none fences end a =
    none fences end
    (subst (λ i. Answers i s.p s.r form.Any s.goal fences end) (sym j)
    (subst (λ q. Answers job q s.r form.Any s.goal fences end) (sym pe)
    (subst (λ q. Answers job p q form.Any s.goal fences end) (sym re)
    (subst (λ h. Answers job p r form.Any h fences end) (sym ge) a))))

pub not_released : (job : Job) (p r : ℕ) → ((fences : Release) (end : Ending) → Answers job p r form.Any goal.Second fences end → ⊥) → ReleasedBefore job p r → ⊥
not_released job p r none found =
    let f = from_release job p r found.0 found.1 found.2 in
    none f.fences ending.Second (record { release = f.release; ends = subst (λ x. Before job x r) (sym f.ends) found.3 })

pub not_acquired : (job : Job) (p r : ℕ) → ((fences : Release) (end : Ending) → Answers job p r form.Any goal.Acquire fences end → ⊥) → ReleasedToAcquire job p r → ⊥
not_acquired job p r none found =
    let f = from_release job p r found.0 found.1 found.4 in
    let a = from_acquire job p r found.2 found.3 found.6 in
    let between : Before job (end_of f.fences) (first_of a.fences) = subst (λ y. Before job (end_of f.fences) y) (sym a.begins) (subst (λ x. Before job x found.2) (sym f.ends) found.5) in
    none f.fences (ending.Acquired a.fences) (record { release = f.release; ends = record { acquire = a.acquire; after = between } })

-- ---- the judgement

pub some_acquired : (job : Job) (p r : ℕ) (fences : Option (Release × Acquire)) → IfSome fences (ReleasesToAcquire job p r) → IsSome fences → ReleasedToAcquire job p r
some_acquired job p r (Some fences) a there = is_acquired job p r fences a
some_acquired job p r None a there = cc

some_released : (job : Job) (p r : ℕ) (fences : Option Release) → IfSome fences (ReleasesBefore job p r) → IsSome fences → ReleasedBefore job p r
some_released job p r (Some fences) a there = is_released job p r fences a
some_released job p r None a there = cc

pub shows : (job : Job) (p r : ℕ) (s : Shown) → Shows job p r s → model.Shown job p r
shows job p r s a model.Conflict.WriteRead k = some_acquired job p r s.wr a.wr (a.has_wr.1 k)
shows job p r s a model.Conflict.WriteWrite k = some_released job p r s.ww a.ww (a.has_ww.1 k)
shows job p r s a model.Conflict.ReadWrite k = a.rw (a.has_rw.1 k)

flag_is : (job : Job) (p r : ℕ) (kinds : Kinds) (k : Kind) → HasConflicts job p r kinds → IsTrue (flag_of kinds k) ↔ Conflicts job (conflict_of k) p r
flag_is job p r kinds kind.WriteRead h = h.wr
flag_is job p r kinds kind.WriteWrite h = h.ww
flag_is job p r kinds kind.ReadWrite h = h.rw

none_there : (job : Job) (p r : ℕ) (kinds : Kinds) (k : Kind) → HasConflicts job p r kinds → flag_of kinds k ≡ false → Conflicts job (conflict_of k) p r → ⊥
none_there job p r kinds k h off there = let x : false ≡ true = sym off ∙ (flag_is job p r kinds k h).1 there in cc

-- p isn't before r, so the first kind isn't shown
pub unordered : (job : Job) (p r : ℕ) (kinds : Kinds) (k : Kind) → HasConflicts job p r kinds → (Before job p r → ⊥) → IsFirstKind kinds k → IsNotShown job p r (record { kind = k; why = why.Unordered })
unordered job p r kinds k h apart f = record {
  conflicts = (flag_is job p r kinds k h).0 f.there;
  not_shown = λ s. apart (shown_is_before job (conflict_of k) p r s);
  reason = apart;
  ahead = λ other low there. absurd (none_there job p r kinds other h (f.first other low) there);
}

-- where there is no conflict
pub nothing_shown : (job : Job) (p r : ℕ) (kinds : Kinds) → HasConflicts job p r kinds → ((k : Kind) → flag_of kinds k ≡ false) → Shows job p r (record { wr = None; ww = None; rw = false })
nothing_shown job p r kinds h off = record {
  has_wr = (λ t. absurd (let x : false ≡ true = t in cc), λ k. absurd (none_there job p r kinds kind.WriteRead h (off kind.WriteRead) k));
  wr = tt;
  has_ww = (λ t. absurd (let x : false ≡ true = t in cc), λ k. absurd (none_there job p r kinds kind.WriteWrite h (off kind.WriteWrite) k));
  ww = tt;
  has_rw = (λ t. absurd (let x : false ≡ true = t in cc), λ k. absurd (none_there job p r kinds kind.ReadWrite h (off kind.ReadWrite) k));
  rw = λ t. absurd (let x : false ≡ true = t in cc);
}

pub exact : (job : Job) (p r : ℕ) (result : Result Shown NotShown) → IfOk result (Shows job p r) → IfErr result (IsNotShown job p r) → IsOk result ↔ model.Shown job p r
exact job p r (Ok s) ok err = (λ t. shows job p r s ok, λ m. refl)
exact job p r (Err n) ok err = (λ t. absurd (let x : false ≡ true = t in cc), λ m. absurd (err.not_shown (m (conflict_of n.kind) err.conflicts)))
