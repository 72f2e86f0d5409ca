-- The lists of the events that were answered to a processor.
use Rattle.std.specs.Prelude.{◌≡◌, ℕ, List, [], ◌∷◌, ◌++◌, map, slice_get, Some}
use Rattle.hq_tables.specs.declared.rows.Placed.{Placed}
use Rattle.hq_events.specs.declared.event.Event.{Event}
use Rattle.hq_events.specs.declared.event.Event.TheVariants as event
use Rattle.hq_events.specs.Events.{coarse_of}
use Rattle.hq_model.specs.Job.{Job, packet}
use Rattle.hq_model.specs.Journal.{Coarse, Part, Program, HostProgram}

-- the events of a kernel or agent packet p of queue q
abbrev pub work_events : ℕ → ℕ → List Event
work_events q p = event.Launch q ∷ event.Enter p ∷ event.Fetch p ∷ event.Deliver p ∷ event.Complete p ∷ []

-- The list grew by what a processor does for packet p.
pub record Did (job : Job) (p : ℕ) (old new : List Event) : Type 0 where
  pub part : List Coarse
  pub added : map coarse_of new ≡ map coarse_of old ++ part
  pub is : Part job p (packet job p).kind part

-- The list is all that the processor of queue q does.
pub record IsProgram (job : Job) (q : ℕ) (list : List Event) : Type 0 where
  pub is : Program job q (map coarse_of list)

-- The list is all that the host does.
pub record IsHostProgram (job : Job) (list : List Event) : Type 0 where
  pub is : HostProgram job (map coarse_of list)

-- the events of a barrier packet p of queue q that observes this slot alone
abbrev pub or_events : ℕ → ℕ → ℕ → List Event
or_events q p slot = event.Launch q ∷ event.Observe p slot ∷ event.Enter p ∷ event.Complete p ∷ []

-- The list grew by these, of a slot of the packet that isn't null.
pub record ByOne (placed : Placed) (p : ℕ) (old new : List Event) : Type 0 where
  pub slot : ℕ
  pub signal : ℕ
  pub is_slot : slice_get placed.slots slot ≡ Some (Some signal)
  pub added : new ≡ old ++ or_events placed.queue p slot
