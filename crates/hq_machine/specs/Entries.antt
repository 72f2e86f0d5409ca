-- All entries of a packet in order: when all may be read or stored, and how far reading has come.
use Rattle.std.specs.Prelude.{◌≡◌, ℕ, ◌<◌, ◌≤◌, List, length, map, Option, None, slice_index_or}
use Rattle.hq_model.specs.Job.{Job, packet}
use Rattle.hq_model.specs.Machine.{State, Steps}
use Rattle.hq_model.specs.Machine.Event.{Read}
use Rattle.hq_model.specs.Journal.{numbers}
use Rattle.hq_machine.specs.Changes.{with_reads}
use Rattle.hq_machine.specs.Enabled.{MayRead, MayStore}
use Rattle.hq_machine.specs.State.{StateValue}
use Rattle.hq_machine.specs.View.{IsStateOf, state_of}

-- each entry of p may be read
abbrev pub MayFetch : Job → State → ℕ → Type 0
MayFetch job state p = (i : ℕ) → i < length (packet job p).reads → MayRead job state p i

-- with this row p has read its first n entries in order, and no other
pub record FetchedUpTo (job : Job) (old : StateValue) (p n : ℕ) (row : List (Option ℕ)) : Type 0 where
  pub is : IsStateOf job (with_reads old p row)
  pub steps : Steps job (state_of job old) (map (Read p) (numbers n)) (state_of job (with_reads old p row))
  pub whole : length row ≡ length (packet job p).reads
  pub rest : (j : ℕ) → n ≤ j → slice_index_or row j None ≡ None

-- each byte of p may be stored
abbrev pub MayDeliver : Job → State → ℕ → Type 0
MayDeliver job state p = (i : ℕ) → i < length (packet job p).writes → MayStore job state p i
