-- Which conflicts have pair lines.
use Rattle.std.specs.Prelude.{◌≡◌, ℕ, ◌+◌, ◌*◌, ◌<◌, ◌⊎◌, ◌↔◌, IsTrue, Bool, false, List, [], length}
use Rattle.std.specs.Prelude.{Option, MatchOption}
use Rattle.hq_bits.specs.Bits.{has}
use Rattle.hq_bits.specs.declared.TheConstants.{WIDTH}
use Rattle.hq_footprint.specs.declared.conflicts.Kinds.{Kinds}
use Rattle.hq_parts.specs.Parts.{AreParts}
use Rattle.hq_model.specs.Job.{Job, IsPacket, packet}
use Rattle.hq_model.specs.Fence.{Conflict, Conflicts}
use Rattle.hq_model.specs.Fence.Conflict.{WriteRead, WriteWrite, ReadWrite}
use Rattle.hq_model.specs.Certificate.{Pair, IsFor, HasPair, HasPairs}
use Rattle.hq_certcheck.specs.declared.flags.TheConstants.{KINDS, PACKET_WORDS}
use Rattle.hq_certcheck.specs.declared.possible.Possible.{Possible}

-- Each conflict of p with r has its pair line, those of one direction all of theirs.
abbrev pub Covered : Job → List Pair → ℕ → ℕ → Type 0
Covered job pairs p r = (kind : Conflict) → Conflicts job kind p r → HasPairs job pairs p r ⊎ HasPairs job pairs r p

-- q and s stand before p and r in number order: by the first number, then by the second.
abbrev pub ComesSooner : ℕ → ℕ → ℕ → ℕ → Type 0
ComesSooner q s p r = (q < p) ⊎ ((q ≡ p) × (s < r))

-- All are.
abbrev pub NoneMissing : Job → List Pair → Type 0
NoneMissing job pairs = (p r : ℕ) → p < r → IsPacket job r → Covered job pairs p r

-- p < r are the first packets in number order that aren't covered.
pub record FirstMissing (job : Job) (pairs : List Pair) (p r : ℕ) : Type 0 where
  pub ahead : p < r
  pub is_packet : IsPacket job r
  pub missing : ¬ Covered job pairs p r
  pub first : (q s : ℕ) → q < s → IsPacket job s → ComesSooner q s p r → Covered job pairs q s

-- The first packets that aren't covered are these, or all are.
abbrev pub MissingIs : Job → List Pair → Option (ℕ × ℕ) → Type 0
MissingIs job pairs found = MatchOption found (NoneMissing job pairs) (λ pair. FirstMissing job pairs pair.0 pair.1)

-- ---- by a table of bits: for each packet a row for each kind of conflict

-- The flag of the kind.
abbrev pub has_kind : Conflict → Kinds → Bool
has_kind WriteRead kinds = kinds.wr
has_kind WriteWrite kinds = kinds.ww
has_kind ReadWrite kinds = kinds.rw

-- The place of the kind's row among those of a packet.
abbrev pub row_of : Conflict → ℕ
row_of WriteRead = 0
row_of WriteWrite = 1
row_of ReadWrite = 2

-- Whether there is the flag of this kind of conflict of p with r: bit r of p's row for the kind.
abbrev pub has_flag : Conflict → List ℕ → ℕ → ℕ → Bool
has_flag kind flags p r = has flags ((p * KINDS + row_of kind) * WIDTH + r)

-- There are the rows of so many packets; or none at all, where there is no flag.
abbrev pub HasRows : ℕ → List ℕ → Type 0
HasRows count flags = (flags ≡ []) ⊎ (length flags ≡ count * PACKET_WORDS)

-- Two of so many packets have a flag exactly where one of the pair lines is for it.
abbrev pub AreListed : List Pair → ℕ → List ℕ → Type 0
AreListed pairs count flags = (p r : ℕ) → p < count → r < count → (kind : Conflict)
    → IsTrue (has_flag kind flags p r) ↔ HasPair pairs p r kind

-- The flags are those that there were and that of the pair line.
abbrev pub IsMarked : Pair → ℕ → List ℕ → List ℕ → Type 0
IsMarked pair count old new = (p r : ℕ) → p < count → r < count → (kind : Conflict)
    → IsTrue (has_flag kind new p r) ↔ (IsTrue (has_flag kind old p r) ⊎ IsFor pair p r kind)

-- Each kind of conflict of p with r has its flag.
abbrev pub AreFlagged : Job → List ℕ → ℕ → ℕ → Type 0
AreFlagged job flags p r = (kind : Conflict) → Conflicts job kind p r → IsTrue (has_flag kind flags p r)

-- The same in one direction, for each conflict.
abbrev pub IsFlagged : Job → List ℕ → ℕ → ℕ → Type 0
IsFlagged job flags p r = (kind : Conflict) → Conflicts job kind p r
    → AreFlagged job flags p r ⊎ AreFlagged job flags r p

-- Those of p with the packets after it, up to the end, are.
abbrev pub AllFlagged : Job → List ℕ → ℕ → ℕ → Type 0
AllFlagged job flags p end = (s : ℕ) → p < s → s < end → IsFlagged job flags p s

-- r is the least packet after p whose conflicts with p aren't.
pub record FirstUnflaggedAfter (job : Job) (flags : List ℕ) (p r : ℕ) : Type 0 where
  pub ahead : p < r
  pub is_packet : IsPacket job r
  pub missing : ¬ IsFlagged job flags p r
  pub first : AllFlagged job flags p r

-- Those of p with all packets after it are.
abbrev pub RowFlagged : Job → List ℕ → ℕ → Type 0
RowFlagged job flags p = AllFlagged job flags p (length job.packets)

-- p is the least packet that has such packets after it.
pub record FirstUnflaggedRow (job : Job) (flags : List ℕ) (p : ℕ) : Type 0 where
  pub is_packet : IsPacket job p
  pub missing : ¬ RowFlagged job flags p
  pub first : (q : ℕ) → q < p → RowFlagged job flags q

-- p and r are the first in number order.
pub record FirstUnflagged (job : Job) (flags : List ℕ) (p r : ℕ) : Type 0 where
  pub after : FirstUnflaggedAfter job flags p r
  pub first : (q : ℕ) → q < p → RowFlagged job flags q

-- ---- packets that may conflict at all

-- The first row has all packets that read something, and the second all that write something.
pub record AreRoles (job : Job) (readers writers : List ℕ) : Type 0 where
  pub reads : (s : ℕ) → IsPacket job s → has readers s ≡ false → (packet job s).reads ≡ []
  pub writes : (s : ℕ) → IsPacket job s → has writers s ≡ false → (packet job s).writes ≡ []

-- What tells of the packets of a job which may conflict.
pub record IsPossible (job : Job) (possible : Possible) : Type 0 where
  pub parts : AreParts job possible.parts
  pub roles : AreRoles job possible.readers possible.writers
