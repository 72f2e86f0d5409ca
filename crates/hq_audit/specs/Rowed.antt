-- What is known of the drafts of some packets with those above them: those of a part, from where it begins up to where
-- the next one does.
use Rattle.std.specs.Prelude.{ℕ, ◌+◌, ◌*◌, ◌/◌, ◌<◌, ◌≤◌, ◌⊎◌, IsTrue, List, [], ◌∷◌, length, slice_index_or}
use Rattle.hq_model.specs.declared.limits.TheConstants.{PACKETS}
use Rattle.hq_model.specs.Job.{Job, IsPacket}
use Rattle.hq_audit.specs.declared.draft.Draft.{Draft}
use Rattle.hq_audit.specs.declared.drafting.Drafts.{Drafts}
use Rattle.hq_audit.specs.declared.spreading.Part.{Part}
use Rattle.hq_audit.specs.declared.spreading.TheConstants.{STARTS}
use Rattle.hq_audit.specs.Drafted.{drafts_of, AreDrafts}
use Rattle.hq_audit.specs.Paired.{HasAll, RowsPaired, AllPaired}
use Rattle.hq_audit.specs.Refused.{ShownOneWay, RowsShown, AllShown}

-- there is a draft for each kind of conflict, in one direction, of all pairs whose lesser packet is one from a up to
-- b
abbrev pub RowsBetween : Job → List Draft → ℕ → ℕ → Type 0
RowsBetween job drafts a b = (q s : ℕ) → a ≤ q → q < b → q < s → IsPacket job s
    → HasAll job drafts q s ⊎ HasAll job drafts s q

-- and all such pairs are ordered
abbrev pub ShownBetween : Job → ℕ → ℕ → Type 0
ShownBetween job a b = (q s : ℕ) → a ≤ q → q < b → q < s → IsPacket job s → ShownOneWay job q s

-- the drafts of the packets from a up to b
pub record DraftsRows (job : Job) (a b : ℕ) (drafts : Drafts) : Type 0 where
  pub are : AreDrafts job drafts
  pub paired : RowsBetween job (drafts_of drafts) a b
  pub shown : ShownBetween job a b

-- the packet with which part k begins: as many of PACKETS as STARTS says, or all of them behind the last one
abbrev pub start_of : Job → ℕ → ℕ
start_of job k = length job.packets * slice_index_or STARTS k PACKETS / PACKETS

-- the drafts of part k are those of all its pairs, where that is said
abbrev pub MayDraft : Job → ℕ → Part → Type 0
MayDraft job k part = IsTrue part.whole → DraftsRows job (start_of job k) (start_of job (k + 1)) part.drafts

-- so it is for these parts, the first of which is part k
abbrev pub AreJudged : Job → ℕ → List Part → Type 0
AreJudged job k [] = Unit {0}
AreJudged job k (part ∷ parts) = MayDraft job k part × AreJudged job (k + 1) parts

-- so it is for all parts
abbrev pub AllMayDraft : Job → List Part → Type 0
AllMayDraft job parts = (k : ℕ) (d : Part) → k < length parts → MayDraft job k (slice_index_or parts k d)

-- what each of these has so far are drafts
abbrev pub AreRooms : Job → List Part → Type 0
AreRooms job [] = Unit {0}
AreRooms job (part ∷ parts) = AreDrafts job part.drafts × AreRooms job parts

-- the drafts of all packets up to one
pub record DraftsUpto (job : Job) (a : ℕ) (drafts : Drafts) : Type 0 where
  pub are : AreDrafts job drafts
  pub paired : RowsPaired job (drafts_of drafts) a
  pub shown : RowsShown job a

-- the drafts of all packets
pub record DraftsAll (job : Job) (drafts : Drafts) : Type 0 where
  pub are : AreDrafts job drafts
  pub paired : AllPaired job (drafts_of drafts)
  pub shown : AllShown job
