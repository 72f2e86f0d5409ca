-- What drafts rest on.
use Rattle.std.proofs.Common.{ℕ, inl, inr, List, sym, subst}
use Rattle.hq_fence.specs.declared.shown.Release.{Release}
use Rattle.hq_fence.specs.declared.shown.Release.TheVariants as release
use Rattle.hq_fence.specs.declared.shown.Acquire.{Acquire}
use Rattle.hq_fence.specs.declared.shown.Acquire.TheVariants as acquire
use Rattle.hq_fence.specs.Judgement.{IsRelease, IsAcquire, end_of, first_of}
use Rattle.hq_model.specs.Job.{Job, IsPacket}
use Rattle.hq_model.specs.Fence.{SameOrBefore}
use Rattle.hq_derive.proofs.Founded.{before_second, first_of as before_first}
use Rattle.hq_audit.specs.declared.draft.Draft.{Draft}
use Rattle.hq_audit.specs.declared.draft.Means.{Means}
use Rattle.hq_audit.specs.declared.draft.Means.TheVariants.{ReadWrite, WriteWrite, WriteRead}
use Rattle.hq_audit.specs.Drafted.{Upto, KnownForRelease, KnownForAcquire, KnownFor, IsDraft, AllDrafts}

-- ---- what is known of two packets may be more

module _ (Known More : ℕ → ℕ → Type 0) (more : (p r : ℕ) → Known p r → More p r) where
  pub upto_more : (p x : ℕ) → Upto Known p x → Upto More p x
  upto_more p x (inl e) = inl e
  upto_more p x (inr k) = inr (more p x k)

  pub release_more : (p : ℕ) (r : Release) → KnownForRelease Known p r → KnownForRelease More p r
  release_more p (release.Alone x) h = upto_more p x h
  release_more p (release.Chained x x2) h = (upto_more p x h.0, more x x2 h.1)

  pub acquire_more : (r : ℕ) (a : Acquire) → KnownForAcquire Known r a → KnownForAcquire More r a
  acquire_more r (acquire.Alone y) h = upto_more y r h
  acquire_more r (acquire.Chained y2 y) h = (more y2 y h.0, upto_more y r h.1)

  pub rests_more : (p r : ℕ) (means : Means) → KnownFor Known p r means → KnownFor More p r means
  rests_more p r ReadWrite h = more p r h
  rests_more p r (WriteWrite released) h = (release_more p released h.0, more (end_of released) r h.1)
  rests_more p r (WriteRead released acquired) h = (release_more p released h.0, more (end_of released) (first_of acquired) h.1, acquire_more r acquired h.2)

  pub draft_more : (job : Job) (draft : Draft) → IsDraft job Known draft → IsDraft job More draft
  draft_more job draft d = record { p_is = d.p_is; r_is = d.r_is; order = d.order; known = rests_more draft.p draft.r draft.means d.known }

  pub drafts_more : (job : Job) (drafts : List Draft) → AllDrafts job Known drafts → AllDrafts job More drafts
  drafts_more job drafts all = λ k d low. draft_more job _ (all k d low)

-- ---- what fences are of are packets

same_or_after : (job : Job) (p x : ℕ) → SameOrBefore job p x → IsPacket job p → IsPacket job x
same_or_after job p x (inl e) is = subst (IsPacket job) e is
same_or_after job p x (inr b) is = before_second job p x b

same_or_ahead : (job : Job) (y r : ℕ) → SameOrBefore job y r → IsPacket job r → IsPacket job y
same_or_ahead job y r (inl e) is = subst (IsPacket job) (sym e) is
same_or_ahead job y r (inr b) is = before_first job b

pub released_alone : (job : Job) (p r x : ℕ) → IsRelease job p r (release.Alone x) → IsPacket job p → IsPacket job x
released_alone job p r x h is = same_or_after job p x h.after is

pub released_first : (job : Job) (p r x x2 : ℕ) → IsRelease job p r (release.Chained x x2) → IsPacket job p → IsPacket job x
released_first job p r x x2 h is = same_or_after job p x h.1.after is

pub released_last : (job : Job) (p r x x2 : ℕ) → IsRelease job p r (release.Chained x x2) → IsPacket job x2
released_last job p r x x2 h = before_second job x x2 h.2

pub acquired_alone : (job : Job) (p r y : ℕ) → IsAcquire job p r (acquire.Alone y) → IsPacket job r → IsPacket job y
acquired_alone job p r y h is = same_or_ahead job y r h.before is

pub acquired_last : (job : Job) (p r y2 y : ℕ) → IsAcquire job p r (acquire.Chained y2 y) → IsPacket job r → IsPacket job y
acquired_last job p r y2 y h is = same_or_ahead job y r h.3.before is

pub acquired_first : (job : Job) (p r y2 y : ℕ) → IsAcquire job p r (acquire.Chained y2 y) → IsPacket job y2
acquired_first job p r y2 y h = before_first job h.2
