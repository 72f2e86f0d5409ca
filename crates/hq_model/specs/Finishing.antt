-- How runs end: none stops while a packet that isn't stuck could go on.
use Rattle.std.specs.Prelude.{◌≡◌, ◌≢◌, ℕ, ◌↔◌, IsTrue, List, All}
use Rattle.hq_model.specs.Job.{Job, IsPacket}
use Rattle.hq_model.specs.Order.{OrderList, Stuck}
use Rattle.hq_model.specs.Machine.{State, Event, Steps, Run, NoWorkLeft, is_work}
use Rattle.hq_model.specs.Machine.Phase.{Complete}
use Rattle.hq_model.specs.Theorems.{Valid, IsOver}

-- From wherever a run stands, work steps lead to where no work is left.
abbrev pub StandstillReached : Type 0
StandstillReached = (job : Job) (events : List Event) (state : State) → Valid job → Run job events state
    → (more : List Event) × (last : State) × Steps job state more last × All (λ e. IsTrue (is_work e)) more
    × NoWorkLeft job last

-- A run that no work is left to has completed exactly the packets that stand in no stuck set.
abbrev pub StandstillLaw : Type 0
StandstillLaw = (job : Job) (events : List Event) (state : State) → Valid job → Run job events state
    → NoWorkLeft job state → (p : ℕ) → IsPacket job p → ((state.phase p ≡ Complete) ↔ (Stuck job p → ⊥))

-- So the packets of stuck sets are exactly those that no run completes.
abbrev pub StuckExact : Type 0
StuckExact = (job : Job) → Valid job → (p : ℕ) → IsPacket job p
    → (Stuck job p ↔ ((events : List Event) (state : State) → Run job events state → state.phase p ≢ Complete))

-- Where an order list exists there is no deadlock, whether or not the job's conflicts are ordered: a run that no work
-- is left to is over.
abbrev pub FinishLaw : Type 0
FinishLaw = (job : Job) (list : List ℕ) (events : List Event) (state : State) → Valid job → OrderList job list
    → Run job events state → NoWorkLeft job state → IsOver job state
