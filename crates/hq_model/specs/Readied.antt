-- A packet that is active can come to its completion by itself: what it still has to read and store, and what its
-- release waits for, is done by its own reads and stores and by pushes.
use Rattle.std.specs.Prelude.{◌≡◌, ℕ, List, ◌++◌, All}
use Rattle.hq_model.specs.Job.{Job, IsPacket}
use Rattle.hq_model.specs.Machine.{State, Event, Step, Steps, Run, completed}
use Rattle.hq_model.specs.Machine.Phase.{Active}
use Rattle.hq_model.specs.Machine.Event.{Enter, Finish, Read, Store, PushLane, PushAgent}
use Rattle.hq_model.specs.Theorems.{Valid}

-- a read or a store of p, or a push
abbrev pub Readies : ℕ → Event → Type 0
Readies p (Read r i) = r ≡ p
Readies p (Store r i) = r ≡ p
Readies p (PushLane l b) = Unit {0}
Readies p (PushAgent a b) = Unit {0}
Readies p _ = ⊥

-- Phases, observed slots and signals are as they were.
pub record SameProgress (old new : State) : Type 0 where
  pub phase : new.phase ≡ old.phase
  pub observed : new.observed ≡ old.observed
  pub signal : new.signal ≡ old.signal

-- From old, reads and stores of p and pushes lead to a state in which p can complete, and on the way there nothing
-- else changes.
pub record Readied (job : Job) (old : State) (p : ℕ) : Type 0 where
  pub events : List Event
  pub new : State
  pub steps : Steps job old events new
  pub own : All (Readies p) events
  pub same : (first last : List Event) (mid : State) → events ≡ first ++ last → Steps job old first mid
      → SameProgress old mid
  pub finish : Step job new (Finish p) (completed job new p)

-- In every run a packet that is active can complete so.
abbrev pub CompletionReached : Type 0
CompletionReached =
    (job : Job) (events : List Event) (state : State) (p : ℕ)
    → Valid job → Run job events state → IsPacket job p → state.phase p ≡ Active → Readied job state p

-- And so can one that enters now.
abbrev pub EntryReadied : Type 0
EntryReadied =
    (job : Job) (events : List Event) (state new : State) (p : ℕ)
    → Valid job → Run job events state → Step job state (Enter p) new → Readied job new p
