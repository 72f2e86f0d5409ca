-- What each change of the lists is to the model's state, and that it keeps what is known of a state of a job.
use Rattle.std.proofs.Common.{◌≡◌, ℕ, ◌<◌, ◌↔◌, inl, inr, List, [], Bool, true, false, Some, None, length, map, set, get_or, refl, sym, ◌∙◌, ap, subst, arith, length-set, get_or-set_same, get_or-set_other}
use Rattle.std.proofs.lemmas.Bool.{cases_eq}
use Rattle.hq_model.specs.Job.{Job, IsPacket, Dependency}
use Rattle.hq_model.specs.Machine as machine
use Rattle.hq_model.specs.Machine.{State, Event, MaySubmit, MayLaunch, with_phase, first_phase, put2}
use Rattle.hq_model.specs.Machine.Phase.{InQueue, Launched}
use Rattle.hq_model.specs.Machine.Event.{Submit, Launch, Observe}
use Rattle.hq_model.proofs.View.{phases_of_set}
use Rattle.hq_model.proofs.Places.{none_get, some_get}
use Rattle.hq_events.specs.Phases.{named}
use Rattle.hq_machine.specs.State.{StateValue}
use Rattle.hq_events.specs.declared.phase.Phase.{Phase}
use Rattle.hq_events.proofs.Phases as code_phases
use Rattle.std.proofs.lemmas.List.{map-set}
use Rattle.hq_events.proofs.Places.{row_set}
use Rattle.hq_machine.proofs.Places.{row_put2}
use Rattle.hq_machine.specs.Changes.{Moved, in_phase, with_observed}
use Rattle.hq_machine.specs.Enabled.{Enabled, Observes, MayObserve}
use Rattle.hq_machine.specs.View.{IsStateOf, state_of, row_of}

-- ---- a phase

pub map_named : (phases : List Phase) (p : ℕ) (x : Phase) → map named (set phases p x) ≡ set (map named phases) p (named x)
map_named phases p x = map-set named phases p x

pub named_same : (x y : Phase) → named x ≡ named y → x ≡ y
named_same x y e = code_phases.named_same x y e

pub in_phase_is : (job : Job) (v : StateValue) (p : ℕ) (x : machine.Phase) → p < length v.phases → state_of job (in_phase v p x) ≡ with_phase (state_of job v) p x
in_phase_is job v p x l =
    let e = phases_of_set (first_phase job) v.phases p x l in
    λ i. record (state_of job v) { phase = e i }

pub in_phase_keeps : (job : Job) (v : StateValue) (p : ℕ) (x : machine.Phase) → IsStateOf job v → IsStateOf job (in_phase v p x)
in_phase_keeps job v p x k = record {
  lengths = record {
    phases = length-set v.phases p x ∙ k.lengths.phases;
    observed = k.lengths.observed;
    slots = k.lengths.slots;
    reads = k.lengths.reads;
    stores = k.lengths.stores;
    signals = k.lengths.signals;
    memory = k.lengths.memory;
    agents = k.lengths.agents;
    lanes = k.lengths.lanes;
    lane_agents = k.lengths.lane_agents;
  };
  read_rows = k.read_rows;
  stores = λ q there. let s = k.stores q there in record { row = s.row; read = s.read; bytes = s.bytes };
  dirty = record { lanes = k.dirty.lanes; agents = k.dirty.agents };
}

pub moved_submit : (job : Job) (v : StateValue) (p : ℕ) → IsStateOf job v → MaySubmit job (state_of job v) p → Moved job v Submit (in_phase v p InQueue)
moved_submit job v p k may =
    let there = may.is_packet in
    record { is = in_phase_keeps job v p InQueue k; step = (p, may, in_phase_is job v p InQueue (omega (arith, k.lengths.phases))) }

pub moved_launch : (job : Job) (v : StateValue) (q p : ℕ) → IsStateOf job v → MayLaunch job (state_of job v) q p → Moved job v (Launch q) (in_phase v p Launched)
moved_launch job v q p k may =
    let there = may.is_packet in
    record { is = in_phase_keeps job v p Launched k; step = (p, may, in_phase_is job v p Launched (omega (arith, k.lengths.phases))) }

-- ---- an observation

slots_kept : (job : Job) (v : StateValue) (p slot : ℕ) → IsStateOf job v → IsPacket job p → (q : ℕ) → IsPacket job q → length (row_of (set v.observed p (set (row_of v.observed p) slot true)) q) ≡ 5
slots_kept job v p slot k there q l = elim (cases_eq q p) [
  | inl e ↦ ap (λ r. length (row_of (set v.observed p (set (row_of v.observed p) slot true)) r)) e ∙ ap (λ r. length r) (get_or-set_same v.observed p (set (row_of v.observed p) slot true) [] (omega (arith, k.lengths.observed))) ∙ length-set (row_of v.observed p) slot true ∙ k.lengths.slots p there
  | inr d ↦ ap (λ r. length r) (get_or-set_other v.observed p q (set (row_of v.observed p) slot true) [] d) ∙ k.lengths.slots q l
]

with_observed_keeps : (job : Job) (v : StateValue) (p slot : ℕ) → IsStateOf job v → IsPacket job p → IsStateOf job (with_observed v p slot)
with_observed_keeps job v p slot k there = record {
  lengths = record {
    phases = k.lengths.phases;
    observed = length-set v.observed p _ ∙ k.lengths.observed;
    slots = slots_kept job v p slot k there;
    reads = k.lengths.reads;
    stores = k.lengths.stores;
    signals = k.lengths.signals;
    memory = k.lengths.memory;
    agents = k.lengths.agents;
    lanes = k.lengths.lanes;
    lane_agents = k.lengths.lane_agents;
  };
  read_rows = k.read_rows;
  stores = λ q l. let s = k.stores q l in record { row = s.row; read = s.read; bytes = s.bytes };
  dirty = record { lanes = k.dirty.lanes; agents = k.dirty.agents };
}

pub moved_observe : (job : Job) (v : StateValue) (p slot : ℕ) → IsStateOf job v → slot < 5 → MayObserve job (state_of job v) p slot → Moved job v (Observe p slot) (with_observed v p slot)
moved_observe job v p slot k few may =
    let there = may.dependency.is_packet in
    let len = k.lengths.slots p there in
    let e = row_put2 (λ (row : List Bool) (j : ℕ). get_or row j false) v.observed p slot (set (row_of v.observed p) slot true) [] true (omega (arith, k.lengths.observed)) (row_set (row_of v.observed p) slot true false (omega arith)) in
    let new : state_of job (with_observed v p slot) ≡ record (state_of job v) { observed = put2 (λ (p slot : ℕ). get_or (row_of v.observed p) slot false) p slot true } = λ i. record (state_of job v) { observed = e i } in
    record { is = with_observed_keeps job v p slot k there; step = (may.signal, may.dependency, may.observes.barrier, may.observes.launched, may.observes.over, may.observes.fresh, new) }

pub not_observable : (job : Job) (v : StateValue) (p slot : ℕ) → (MayObserve job (state_of job v) p slot → ⊥) → Enabled job v (Observe p slot) → ⊥
not_observable job v p slot n (new, step) = n (record { signal = step.0; dependency = step.1; observes = record { barrier = step.2; launched = step.3; over = step.4; fresh = step.5 } })

pub observable_some : (job : Job) (state : State) (p slot signal : ℕ) → ((s : ℕ) → (Some signal ≡ Some s) ↔ Dependency job p slot s) → Observes job state p slot signal ↔ MayObserve job state p slot
observable_some job state p slot signal found = (
  λ o. record { signal = signal; dependency = (found signal).0 refl; observes = o },
  λ m. subst (Observes job state p slot) (sym (some_get signal m.signal ((found m.signal).1 m.dependency))) m.observes,
)

pub observable_none : (job : Job) (state : State) (p slot : ℕ) → ((s : ℕ) → (None ≡ Some s) ↔ Dependency job p slot s) → MayObserve job state p slot → ⊥
observable_none job state p slot found m = none_get m.signal ((found m.signal).1 m.dependency)
