-- Which parts of memory packets write and touch: byte x lies in part x / size mod 64, and bit k of a mask stands
-- for part k.
use Rattle.std.specs.Prelude.{◌≡◌, ℕ, ◌+◌, ◌*◌, ◌/◌, ◌%◌, ◌<◌, ◌≤◌, ◌⊎◌, IsTrue, false, List, Some, All, length, slice_get}
use Rattle.std.specs.Int.{bit_at}
use Rattle.hq_footprint.specs.declared.footprint.Range.{Range}
use Rattle.hq_footprint.specs.declared.footprint.Footprint.{Footprint}
use Rattle.hq_model.specs.Job.{Job}
use Rattle.hq_model.specs.Fence.{Conflict, Conflicts}
use Rattle.hq_bits.specs.Bits.{has}
use Rattle.hq_bits.specs.declared.TheConstants.{WIDTH}
use Rattle.hq_parts.specs.declared.parts.TheConstants.{TABLE}
use Rattle.hq_parts.specs.declared.parts.Others.{Others}
use Rattle.hq_parts.specs.declared.parts.Parts.{Parts}
use Rattle.hq_parts.specs.declared.parts.Tables.{Tables}
use Rattle.hq_parts.specs.declared.parts.Touch.{Touch}

-- The mask has the part of each byte of the range.
pub record HasRange (size mask : ℕ) (r : Range) : Type 0 where
  pub bytes : (x : ℕ) → r.at ≤ x → x < r.at + r.len → bit_at mask (x / size % 64) ≡ 1

-- so do the masks of a footprint, for all that it reads and writes
pub record HasFoot (size : ℕ) (t : Touch) (foot : Footprint) : Type 0 where
  pub reads : All (HasRange size t.touched) foot.reads
  pub touched : HasRange size t.touched foot.write
  pub written : HasRange size t.written foot.write

-- no part is in both masks
abbrev pub AreDisjoint : ℕ → ℕ → Type 0
AreDisjoint left right = (k : ℕ) → bit_at left k ≡ 1 → bit_at right k ≡ 1 → ⊥

-- neither writes in a part that the other touches
pub record IsApart (t u : Touch) : Type 0 where
  pub first : AreDisjoint t.written u.touched
  pub second : AreDisjoint t.touched u.written

-- so it is of two of them, by their places
abbrev pub AreApart : List Touch → ℕ → ℕ → Type 0
AreApart touches a b = (t u : Touch) → slice_get touches a ≡ Some t → slice_get touches b ≡ Some u → IsApart t u

-- There is no conflict of a with b, a first.
abbrev pub NeverConflict : Job → ℕ → ℕ → Type 0
NeverConflict job a b = (kind : Conflict) → Conflicts job kind a b → ⊥

-- There is one for each packet, and packets that are apart don't conflict.
pub record TellConflicts (job : Job) (touches : List Touch) : Type 0 where
  pub len : length touches ≡ length job.packets
  pub apart : (a b : ℕ) (t u : Touch) → slice_get touches a ≡ Some t → slice_get touches b ≡ Some u → IsApart t u
      → NeverConflict job a b

-- the table has, in the row of each part, every packet whose mask has the part
pub record IsTable (mask : Touch → ℕ) (touches : List Touch) (table : List ℕ) : Type 0 where
  pub len : length table ≡ TABLE
  pub each : (k b : ℕ) (t : Touch) → k < 64 → slice_get touches b ≡ Some t → bit_at (mask t) k ≡ 1
      → IsTrue (has table (k * WIDTH + b))

-- the tables of these packets
pub record AreTables (touches : List Touch) (tables : Tables) : Type 0 where
  pub written : IsTable (λ t. t.written) touches tables.written.items
  pub touched : IsTable (λ t. t.touched) touches tables.touched.items

-- the parts of the packets of a job
pub record AreParts (job : Job) (parts : Parts) : Type 0 where
  pub few : length parts.packets.items ≤ WIDTH
  pub tell : TellConflicts job parts.packets.items
  pub fine : TellConflicts job parts.fine.items
  pub tables : AreTables parts.packets.items parts.tables

-- the row has all packets that the table has for the parts of the mask
pub record TakesRows (table : List ℕ) (mask : ℕ) (row : List ℕ) : Type 0 where
  pub low : (k : ℕ) → bit_at mask k ≡ 1 → k < 64
  pub rows : (k p : ℕ) → p < WIDTH → bit_at mask k ≡ 1 → IsTrue (has table (k * WIDTH + p)) → IsTrue (has row p)

-- a packet that is none of them doesn't conflict with a
abbrev pub AreOthers : Job → ℕ → Others → Type 0
AreOthers job a others = (s : ℕ) → s < length job.packets → has others.bits s ≡ false → NeverConflict job a s

-- a packet that was taken out of the row is apart from a
abbrev pub LeftOf : List ℕ → List Touch → ℕ → List ℕ → Type 0
LeftOf old touches a new = (s : ℕ) → s < length touches → has new s ≡ false → (has old s ≡ false) ⊎ AreApart touches a s
