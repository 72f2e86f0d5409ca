-- The room of a stock body, and which pieces suit a task.
use Rattle.std.specs.Prelude.{◌≡◌, ◌+◌, ◌≤◌, ◌⊎◌, List, [], ◌∷◌, length}
use Rattle.hq_footprint.specs.declared.task.Task.{Task}
use Rattle.hq_footprint.specs.Tasks.{SuitsTwo}
use Rattle.hq_ledger.specs.Pieces.{Part}
use Rattle.hq_kernels.specs.declared.stock.Room.{Room}
use Rattle.hq_kernels.specs.declared.stock.Room.TheVariants.{Empty, One, Two, Three}
use Rattle.hq_kernels.specs.Bodies.{BodyValue, pieces_of}

-- the pieces in it, in the order in which they came
abbrev pub pieces_in : Room → List Part
pieces_in Empty = []
pieces_in (One first) = first ∷ []
pieces_in (Two first second) = first ∷ second ∷ []
pieces_in (Three first second third) = first ∷ second ∷ third ∷ []

-- A task makes bytes of these lengths of those of the pieces that it reads.
abbrev pub LengthsFit : Task → List Part → Type 0
LengthsFit task [] = Unit {0}
LengthsFit task (write ∷ []) = SuitsTwo task 0 0 (length write.bytes)
LengthsFit task (first ∷ write ∷ []) = SuitsTwo task (length first.bytes) 0 (length write.bytes)
LengthsFit task (first ∷ second ∷ write ∷ []) = SuitsTwo task (length first.bytes) (length second.bytes)
    (length write.bytes)
LengthsFit task (first ∷ second ∷ third ∷ other ∷ more) = ⊥

-- A task has these pieces, and their lengths fit.
pub record IsSuited (task : Task) (held : List Part) : Type 0 where
  pub count : length held ≡ pieces_of task
  pub lengths : LengthsFit task held

-- A stock body has room for these pieces: there are none, or with those that it holds they are no more than its task's.
abbrev pub HasRoom : BodyValue → List Part → Type 0
HasRoom body pieces = (pieces ≡ []) ⊎ (length body.held + length pieces ≤ pieces_of body.task)
