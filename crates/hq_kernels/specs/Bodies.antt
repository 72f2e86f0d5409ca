-- What a body is to its callers, and what each call of it does.
use Rattle.std.specs.Prelude.{◌≡◌, ℕ, ◌+◌, Bool, true, List, [], ◌∷◌, ◌++◌, length, map, Option, Result}
use Rattle.std.specs.Prelude.{MatchOption, MatchResult}
use Rattle.std.specs.List.{flat_map}
use Rattle.hq_footprint.specs.declared.task.Task.{Task}
use Rattle.hq_footprint.specs.declared.task.Task.TheVariants as task
use Rattle.hq_footprint.specs.Counts.{reads_of, writes_of}
use Rattle.hq_footprint.specs.Tasks.{result_of}
use Rattle.hq_ledger.specs.Pieces.{Part, with_bytes}
use Rattle.hq_kernels.specs.declared.fault.KernelFault.{KernelFault}
use Rattle.hq_kernels.specs.declared.fault.KernelFault.TheVariants.{Missing, Refused}

-- A body: its task, the pieces that it holds in the order in which they came, and whether it has run.
pub record BodyValue : Type 0 where
  pub task : Task
  pub held : List Part
  pub ran : Bool

-- how many pieces a task has
abbrev pub pieces_of : Task → ℕ
pieces_of task = reads_of task + writes_of task

-- a piece with the bytes that a task makes of those of the pieces that it reads, end to end
abbrev pub written : Task → List Part → Part → Part
written task reads write = with_bytes write (result_of task (length write.bytes) (flat_map (λ r. r.bytes) reads))

-- The task has these pieces to read and this one to write, in this order, and leaves them with its bytes in the last.
pub record Writes (task : Task) (old new reads : List Part) (write : Part) : Type 0 where
  pub count : length reads ≡ reads_of task
  pub before : old ≡ reads ++ write ∷ []
  pub after : new ≡ reads ++ written task reads write ∷ []

-- The task is done with the old pieces, of which it has as many as it wants, and leaves the new ones.
abbrev pub Performs : Task → List Part → List Part → Type 0
Performs task.Nop old new = (old ≡ []) × (new ≡ [])
Performs other old new = (reads : List Part) × (write : Part) × Writes other old new reads write

-- whose bytes a piece has: of which packet, in which place, from which address on, and how many
pub record PieceRange : Type 0 where
  pub packet : ℕ
  pub place : ℕ
  pub at : ℕ
  pub len : ℕ

-- whose bytes this piece has, from which address on, and how many
abbrev pub range_of : Part → PieceRange
range_of part = record { packet = part.packet; place = part.place; at = part.at; len = length part.bytes }

-- The pieces are of the same ranges.
abbrev pub SameRanges : List Part → List Part → Type 0
SameRanges old new = map range_of old ≡ map range_of new

-- A piece was offered: it was taken behind the others, or it came back and nothing changed.
abbrev pub Loaded : BodyValue → Part → Result (Unit {0}) Part → BodyValue → Type 0
Loaded old piece result new = MatchResult result (λ _. new ≡ record old { held = old.held ++ piece ∷ [] })
    (λ back. (back ≡ piece) × (new ≡ old))

-- A body did its task.
pub record Ran (old new : BodyValue) : Type 0 where
  pub performs : Performs old.task old.held new.held
  pub task : new.task ≡ old.task
  pub ran : new.ran ≡ true

-- A body didn't do its task: its pieces are of the same ranges.
pub record Faulted (old new : BodyValue) : Type 0 where
  pub ranges : SameRanges old.held new.held
  pub task : new.task ≡ old.task
  pub ran : new.ran ≡ old.ran

-- A body was run.
abbrev pub HasRun : BodyValue → Result (Unit {0}) KernelFault → BodyValue → Type 0
HasRun old result new = MatchResult result (λ _. Ran old new) (λ _. Faulted old new)

-- A piece was asked for: the first came out, or there was none and nothing changed.
abbrev pub GaveBack : BodyValue → Option Part → BodyValue → Type 0
GaveBack old result new = MatchOption result ((old.held ≡ []) × (new ≡ old))
    (λ piece. old ≡ record new { held = piece ∷ new.held })

-- A body took the first of these pieces behind those that it held, and left the others.
pub record TookSome (old : BodyValue) (pieces : List Part) (new : BodyValue) : Type 0 where
  pub taken : List Part
  pub left : List Part
  pub split : pieces ≡ taken ++ left
  pub is : new ≡ record old { held = old.held ++ taken }

-- A body took these pieces behind those that it held; or it refused one, once it had taken those before it.
abbrev pub LoadedAll : BodyValue → List Part → Result (Unit {0}) KernelFault → BodyValue → Type 0
LoadedAll old pieces result new = MatchResult result (λ _. new ≡ record old { held = old.held ++ pieces })
    (λ fault. (fault ≡ Refused) × TookSome old pieces new)

-- A body was handed these pieces and didn't do its task, and this is why: it took the first of them behind those that
-- it held, or all if it lacks one, and what it holds is of the same ranges.
pub record Failed (old : BodyValue) (pieces : List Part) (fault : KernelFault) (new : BodyValue) : Type 0 where
  pub taken : List Part
  pub left : List Part
  pub split : pieces ≡ taken ++ left
  pub all : fault ≡ Missing → left ≡ []
  pub ranges : SameRanges (old.held ++ taken) new.held
  pub task : new.task ≡ old.task
  pub ran : new.ran ≡ old.ran
