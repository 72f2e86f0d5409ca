-- Laws of ranges, conflicts and tasks, for the layers above.
use Rattle.std.specs.Prelude.{◌≡◌, ◌≢◌, ℕ, ◌+◌, ◌<◌, ◌≤◌, ◌↔◌, ◌⊎◌, List, [], ◌∷◌, length, map, sum_by}
use Rattle.std.specs.Prelude.{slice_index_or, Some, All, Any, AllPairs, Contains}
use Rattle.hq_footprint.specs.declared.footprint.Range.{Range}
use Rattle.hq_footprint.specs.declared.footprint.Footprint.{Footprint}
use Rattle.hq_footprint.specs.declared.footprint.Work.{Work}
use Rattle.hq_footprint.specs.declared.task.Task.{Task}
use Rattle.hq_footprint.specs.declared.task.Task.TheVariants as task
use Rattle.hq_footprint.specs.declared.task.Code.{Code}
use Rattle.hq_footprint.specs.Bytes.{bytes_of, read_entries, written_bytes, ranges_of, Share, IsWithin, IsInside}
use Rattle.hq_footprint.specs.Conflicts.{Overlap, Conflict}
use Rattle.hq_footprint.specs.Tasks.{result_of, Suits, SuitsTwo}
use Rattle.hq_footprint.specs.Table.{kernel_work, service_call}

-- ---- bytes

-- a range has as many bytes as its length says
abbrev pub BytesCounted : Type 0
BytesCounted = (r : Range) → length (bytes_of r) ≡ r.len

-- byte number i of a range
abbrev pub BytesPlaced : Type 0
BytesPlaced = (r : Range) (i d : ℕ) → i < r.len → slice_index_or (bytes_of r) i d ≡ r.at + i

-- its bytes are the addresses from its beginning to its end
abbrev pub BytesBounded : Type 0
BytesBounded = (r : Range) (b : ℕ) → Contains (bytes_of r) b ↔ ((r.at ≤ b) × (b < r.at + r.len))

-- none of them comes twice
abbrev pub BytesApart : Type 0
BytesApart = (r : Range) → AllPairs (λ a b. a ≢ b) (bytes_of r)

-- those of a range further up are further up
abbrev pub BytesShifted : Type 0
BytesShifted = (r : Range) (k : ℕ) → bytes_of (record { at = r.at + k; len = r.len }) ≡ map (λ b. b + k) (bytes_of r)

-- a footprint has as many read entries as its read ranges have bytes
abbrev pub EntriesCounted : Type 0
EntriesCounted = (foot : Footprint) → length (read_entries foot) ≡ sum_by (λ r. r.len) foot.reads

-- a range with a byte lies within another exactly where the other has all its bytes
abbrev pub WithinHasBytes : Type 0
WithinHasBytes = (r outer : Range) → 0 < r.len → IsWithin r outer
    ↔ ((b : ℕ) → Contains (bytes_of r) b → Contains (bytes_of outer) b)

-- each byte of a footprint whose ranges are inside some buffers is a byte of one of these
abbrev pub InsideHasBytes : Type 0
InsideHasBytes = (foot : Footprint) (buffers : List Range) → All (IsInside buffers) (ranges_of foot)
    → (b : ℕ) → Contains (read_entries foot) b ⊎ Contains (written_bytes foot) b
    → Any (λ buffer. Contains (bytes_of buffer) b) buffers

-- ---- conflicts

-- ranges share a byte exactly where they overlap by their numbers
abbrev pub OverlapsShare : Type 0
OverlapsShare = (r s : Range) → Overlap r s ↔ Share (bytes_of r) (bytes_of s)

-- numbering the addresses anew, each with a number of its own, leaves what two lists share
abbrev pub ShareRenumbered : Type 0
ShareRenumbered = (f : ℕ → ℕ) (xs ys : List ℕ) → ((a b : ℕ) → Contains xs a → Contains ys b → f a ≡ f b → a ≡ b)
    → Share (map f xs) (map f ys) ↔ Share xs ys

-- footprints conflict in both orders or in none
abbrev pub ConflictTurns : Type 0
ConflictTurns = (first second : Footprint) → Conflict first second → Conflict second first

-- ---- tasks

-- a task writes as many bytes as there is room for, where it reads as many as it wants
abbrev pub ResultsCounted : Type 0
ResultsCounted = (t : Task) (n : ℕ) (bytes : List ℕ) → Suits t (length bytes) n → length (result_of t n bytes) ≡ n

-- what it writes are bytes, where what it reads are
abbrev pub ResultsAreBytes : Type 0
ResultsAreBytes = (t : Task) (n : ℕ) (bytes : List ℕ) → ((b : ℕ) → t ≡ task.Fill b → b < 256) → All (λ b. b < 256) bytes
    → All (λ b. b < 256) (result_of t n bytes)

-- the lengths of a work's ranges are those that its task wants, of both read ranges together and of each
pub record LengthsSuit (w : Work) : Type 0 where
  pub together : Suits w.task (length (read_entries w.foot)) (length (written_bytes w.foot))
  pub each : (first second : Range) → w.foot.reads ≡ first ∷ second ∷ []
      → SuitsTwo w.task first.len second.len w.foot.write.len

-- the ranges of each kernel have the lengths that its task wants, on however many items and with whatever arguments
abbrev pub KernelsSuit : Type 0
KernelsSuit = (code : Code) (n a b c : ℕ) → LengthsSuit (kernel_work code n a b c)

-- so have those of each service, with whatever arguments and return address
abbrev pub ServicesSuit : Type 0
ServicesSuit = (kind : ℕ) (args : List ℕ) (ret : ℕ) (w : Work) → service_call kind args ret ≡ Some w → LengthsSuit w
