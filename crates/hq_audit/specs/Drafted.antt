-- What is known of pair lines before the lines that they cite have numbers.
use Rattle.std.specs.Prelude.{◌≡◌, ℕ, ◌⊎◌, Bool, true, false, List, ◌++◌, Some, All, map, slice_get}
use Rattle.std.specs.Global.{Vec}
use Rattle.std.specs.List.{flat_map, list_any}
use Rattle.hq_fence.specs.Judgement.{ReleasesBefore, ReleasesToAcquire, end_of, first_of}
use Rattle.hq_fence.specs.declared.shown.Release.{Release}
use Rattle.hq_fence.specs.declared.shown.Release.TheVariants as release
use Rattle.hq_fence.specs.declared.shown.Acquire.{Acquire}
use Rattle.hq_fence.specs.declared.shown.Acquire.TheVariants as acquire
use Rattle.hq_model.specs.Job.{Job, IsPacket}
use Rattle.hq_model.specs.Order.{Before}
use Rattle.hq_model.specs.Fence as model
use Rattle.hq_model.specs.Fence.{Conflict}
use Rattle.hq_derive.specs.Needed.{HasRoom, IsNeeded}
use Rattle.hq_audit.specs.declared.draft.Draft.{Draft}
use Rattle.hq_audit.specs.declared.draft.Means.{Means}
use Rattle.hq_audit.specs.declared.draft.Means.TheVariants.{ReadWrite, WriteWrite, WriteRead}
use Rattle.hq_audit.specs.declared.packed.Packed.{Packed}
use Rattle.hq_audit.specs.declared.drafting.Drafts.{Drafts}
use Rattle.hq_audit.specs.Packed.{unpacked}

-- the kind of conflict that these are for
abbrev pub kind_by : Means → Conflict
kind_by ReadWrite = model.Conflict.ReadWrite
kind_by (WriteWrite release) = model.Conflict.WriteWrite
kind_by (WriteRead release acquire) = model.Conflict.WriteRead

-- whether a fence goes on from another
abbrev pub is_chained : Means → Bool
is_chained ReadWrite = false
is_chained (WriteWrite (release.Alone x)) = false
is_chained (WriteWrite (release.Chained x x2)) = true
is_chained (WriteRead (release.Alone x) (acquire.Alone y)) = false
is_chained (WriteRead (release.Alone x) (acquire.Chained y2 y)) = true
is_chained (WriteRead (release.Chained x x2) acquire) = true

-- These order p and r.
abbrev pub OrderedBy : Job → ℕ → ℕ → Means → Type 0
OrderedBy job p r ReadWrite = Before job p r
OrderedBy job p r (WriteWrite release) = ReleasesBefore job p r release
OrderedBy job p r (WriteRead release acquire) = ReleasesToAcquire job p r (release, acquire)

-- ---- the lines that are cited

-- p is x, or it is known that p is before x
abbrev pub Upto : (ℕ → ℕ → Type 0) → ℕ → ℕ → Type 0
Upto Known p x = (p ≡ x) ⊎ Known p x

-- what is to be known of a release of p
abbrev pub KnownForRelease : (ℕ → ℕ → Type 0) → ℕ → Release → Type 0
KnownForRelease Known p (release.Alone x) = Upto Known p x
KnownForRelease Known p (release.Chained x x2) = Upto Known p x × Known x x2

-- and of an acquire for r
abbrev pub KnownForAcquire : (ℕ → ℕ → Type 0) → ℕ → Acquire → Type 0
KnownForAcquire Known r (acquire.Alone y) = Upto Known y r
KnownForAcquire Known r (acquire.Chained y2 y) = Known y2 y × Upto Known y r

-- What is to be known, of which packet is before which, where these order p and r.
abbrev pub KnownFor : (ℕ → ℕ → Type 0) → ℕ → ℕ → Means → Type 0
KnownFor Known p r ReadWrite = Known p r
KnownFor Known p r (WriteWrite release) = KnownForRelease Known p release × Known (end_of release) r
KnownFor Known p r (WriteRead release acquire) =
    KnownForRelease Known p release × Known (end_of release) (first_of acquire) × KnownForAcquire Known r acquire

-- ---- drafts

-- A draft is right, and rests on lines of which this is known.
pub record IsDraft (job : Job) (Known : ℕ → ℕ → Type 0) (draft : Draft) : Type 0 where
  pub p_is : IsPacket job draft.p
  pub r_is : IsPacket job draft.r
  pub order : OrderedBy job draft.p draft.r draft.means
  pub known : KnownFor Known draft.p draft.r draft.means

-- so is each one
abbrev pub AllDrafts : Job → (ℕ → ℕ → Type 0) → List Draft → Type 0
AllDrafts job Known drafts = All (IsDraft job Known) drafts

-- the drafts of a list, each of which stands in one number
abbrev pub seen : Vec Packed → List Draft
seen list = map unpacked list.items

-- those of lists that stand one behind another
abbrev pub listed : List (Vec Packed) → List Draft
listed lists = flat_map seen lists

-- all drafts
abbrev pub drafts_of : Drafts → List Draft
drafts_of drafts = listed drafts.full.items ++ seen drafts.last

-- whether one is chained
abbrev pub any_chained : List Draft → Bool
any_chained drafts = list_any (λ draft. is_chained draft.means) drafts

-- Each draft is right and what it rests on is noted; and it is told whether one is chained.
pub record AreDrafts (job : Job) (drafts : Drafts) : Type 0 where
  pub room : HasRoom job drafts.needs
  pub each : AllDrafts job (IsNeeded drafts.needs) (drafts_of drafts)
  pub chained : drafts.chained ≡ any_chained (drafts_of drafts)

-- No draft was lost.
pub record Longer (old new : List Draft) : Type 0 where
  pub drafts : (k : ℕ) (draft : Draft) → slice_get old k ≡ Some draft → slice_get new k ≡ Some draft

-- what one more draft keeps
pub record DraftsGo (job : Job) (old new : Drafts) : Type 0 where
  pub are : AreDrafts job new
  pub longer : Longer (drafts_of old) (drafts_of new)

-- The drafts of others stand behind those that were there.
pub record DraftsJoin (job : Job) (old others new : Drafts) : Type 0 where
  pub are : AreDrafts job new
  pub joined : drafts_of new ≡ drafts_of old ++ drafts_of others
