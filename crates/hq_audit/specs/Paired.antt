-- Which pairs of packets have drafts of pair lines, and pair lines.
use Rattle.std.specs.Prelude.{◌≡◌, ℕ, ◌<◌, ◌⊎◌, List, ◌++◌, length, map, Some, slice_get}
use Rattle.std.specs.Global.{Vec}
use Rattle.std.specs.List.{AllZip}
use Rattle.hq_cert.specs.declared.certificate.Pair.{Pair}
use Rattle.hq_cert.specs.View.{cited, pair_of}
use Rattle.hq_model.specs.Job.{Job, IsPacket}
use Rattle.hq_model.specs.Fence.{Conflict, Conflicts}
use Rattle.hq_model.specs.Certificate as model
use Rattle.hq_model.specs.Certificate.{Cites, FencesHold, ReleaseHolds, AcquireHolds, kind_of}
use Rattle.hq_fence.specs.Judgement.{end_of, first_of}
use Rattle.hq_fence.specs.declared.shown.Release.{Release}
use Rattle.hq_fence.specs.declared.shown.Acquire.{Acquire}
use Rattle.hq_audit.specs.declared.citing.CitedRelease.{CitedRelease}
use Rattle.hq_audit.specs.declared.citing.CitedAcquire.{CitedAcquire}
use Rattle.hq_model.specs.Certificate.Fences.{ForReadWrite, ForWriteWrite, ForWriteRead, ForWriteWriteChained}
use Rattle.hq_model.specs.Certificate.Fences.{ForWriteReadChained}
use Rattle.hq_audit.specs.declared.draft.Draft.{Draft}
use Rattle.hq_audit.specs.declared.draft.Means.{Means}
use Rattle.hq_audit.specs.Drafted.{kind_by}

-- ---- drafts

-- one of the drafts is of this kind of conflict of p with r
pub record HasDraft (drafts : List Draft) (p r : ℕ) (kind : Conflict) : Type 0 where
  pub k : ℕ
  pub draft : Draft
  pub there : slice_get drafts k ≡ Some draft
  pub first : draft.p ≡ p
  pub second : draft.r ≡ r
  pub kind_is : kind_by draft.means ≡ kind

-- so there is one for each kind that there is
abbrev pub HasAll : Job → List Draft → ℕ → ℕ → Type 0
HasAll job drafts p r = (kind : Conflict) → Conflicts job kind p r → HasDraft drafts p r kind

-- for the pairs of a with each packet above it, up to b, in one direction
abbrev pub RowPaired : Job → List Draft → ℕ → ℕ → Type 0
RowPaired job drafts a b = (s : ℕ) → a < s → s < b → IsPacket job s → HasAll job drafts a s ⊎ HasAll job drafts s a

-- for all pairs whose lesser packet is below a
abbrev pub RowsPaired : Job → List Draft → ℕ → Type 0
RowsPaired job drafts a = (q s : ℕ) → q < a → q < s → IsPacket job s → HasAll job drafts q s ⊎ HasAll job drafts s q

-- and for all pairs
abbrev pub AllPaired : Job → List Draft → Type 0
AllPaired job drafts = (q s : ℕ) → q < s → IsPacket job s → HasAll job drafts q s ⊎ HasAll job drafts s q

-- ---- pair lines

-- a release of p, with what it cites: that p is x or before it, and that x is x2 or before it
pub record ReleaseCited (job : Job) (lines : List model.Line) (p r : ℕ) (release : Release)
    (c : CitedRelease) : Type 0 where
  pub from : Cites lines (length lines) (cited c.from) p c.x
  pub holds : ReleaseHolds job lines p r c.x c.x2 (cited c.link)
  pub last : c.x2 ≡ end_of release

-- an acquire for r, with what it cites: that y2 is y or before it, and that y is r or before it
pub record AcquireCited (job : Job) (lines : List model.Line) (p r : ℕ) (acquire : Acquire)
    (c : CitedAcquire) : Type 0 where
  pub to : Cites lines (length lines) (cited c.to) c.y r
  pub holds : AcquireHolds job lines p r c.y2 c.y (cited c.link2)
  pub first : c.y2 ≡ first_of acquire

-- the pair lines, as the model has them
abbrev pub pairs_of : Vec Pair → List model.Pair
pairs_of v = map pair_of v.items

-- These fences, with what they cite, hold for p and r, and are for the kind of conflict that the draft is for.
pub record HoldFor (job : Job) (lines : List model.Line) (p r : ℕ) (means : Means)
    (fences : model.Fences) : Type 0 where
  pub kind_is : kind_of fences ≡ kind_by means
  pub hold : FencesHold job lines p r fences

-- None of these fences goes on from another.
abbrev pub IsPlain : model.Fences → Type 0
IsPlain (ForReadWrite line) = Unit {0}
IsPlain (ForWriteWrite x from on) = Unit {0}
IsPlain (ForWriteRead x y from between to) = Unit {0}
IsPlain (ForWriteWriteChained x x2 from link on) = ⊥
IsPlain (ForWriteReadChained x x2 y2 y from link between link2 to) = ⊥

-- The pair line is of the draft's packets and kind of conflict, and holds.
pub record IsPairOf (job : Job) (lines : List model.Line) (draft : Draft) (pair : model.Pair) : Type 0 where
  pub p_is : IsPacket job draft.p
  pub r_is : IsPacket job draft.r
  pub first : pair.p ≡ draft.p
  pub second : pair.r ≡ draft.r
  pub holds : HoldFor job lines draft.p draft.r draft.means pair.fences

-- so it is one by one
abbrev pub ArePairsOf : Job → List model.Line → List Draft → List model.Pair → Type 0
ArePairsOf job lines drafts pairs = AllZip (IsPairOf job lines) drafts pairs

-- Behind the pair lines of other drafts, those of these were added.
abbrev pub PairsGo : Job → List model.Line → List Draft → Vec Pair → Vec Pair → Type 0
PairsGo job lines drafts old new = (others : List Draft) → ArePairsOf job lines others (pairs_of old)
    → ArePairsOf job lines (others ++ drafts) (pairs_of new)
