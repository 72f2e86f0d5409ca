-- When the wait of a packet is over, by the slots that it has observed.
use Rattle.std.specs.Prelude.{◌≡◌, ℕ, List, Option, Some, Bool, false, IsTrue, slice_get, slice_index_or}
use Rattle.hq_model.specs.Job.{Kind}
use Rattle.hq_model.specs.Job.Kind.{Work, BarrierAnd, BarrierOr}
use Rattle.hq_model.specs.Machine.{State}

-- the slot waits for a signal
abbrev pub Waits : List (Option ℕ) → ℕ → Type 0
Waits deps slot = (s : ℕ) × (slice_get deps slot ≡ Some (Some s))

-- Every slot that waits for a signal was observed.
abbrev pub AllObserved : List (Option ℕ) → List Bool → Type 0
AllObserved deps observed = (slot : ℕ) → Waits deps slot → IsTrue (slice_index_or observed slot false)

-- Some slot that waits for a signal was observed.
abbrev pub OneObserved : List (Option ℕ) → List Bool → Type 0
OneObserved deps observed = (slot : ℕ) × Waits deps slot × IsTrue (slice_index_or observed slot false)

-- The wait of a packet of this kind, with these dependencies, is over.
abbrev pub Over : Kind → List (Option ℕ) → List Bool → Type 0
Over Work deps observed = Unit {0}
Over BarrierAnd deps observed = AllObserved deps observed
Over BarrierOr deps observed = OneObserved deps observed

-- The row says of each slot whether p has observed it.
abbrev pub AreObserved : State → ℕ → List Bool → Type 0
AreObserved state p observed = (slot : ℕ) → slice_index_or observed slot false ≡ state.observed p slot
