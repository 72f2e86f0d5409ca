-- Completions.
use Rattle.std.proofs.Common.{◌≡◌, ℕ, ◌-◌, ◌<◌, List, cond, Option, Some, None, IfSome, length, slice_index, refl, ◌∙◌, arith, length-set}
use Rattle.hq_model.specs.Job.{Job, packet, is_signal}
use Rattle.hq_model.specs.Machine as machine
use Rattle.hq_model.specs.Machine.{State, Event, completed}
use Rattle.hq_machine.proofs.Counts.{decremented_is}
use Rattle.hq_machine.proofs.Moves.{in_phase_is, in_phase_keeps}
use Rattle.hq_machine.specs.Changes.{Moved, in_phase, with_decrement, decremented}
use Rattle.hq_machine.specs.Enabled.{Enabled, MayFinish}
use Rattle.hq_machine.specs.State.{StateValue}
use Rattle.hq_machine.specs.View.{IsStateOf, state_of}

decremented_length : (xs : List ℕ) (done : Option ℕ) → length (decremented xs done) ≡ length xs
decremented_length xs None = refl
decremented_length xs (Some s) = length-set xs s _

with_decrement_keeps : (job : Job) (v : StateValue) (done : Option ℕ) → IsStateOf job v → IsStateOf job (with_decrement v done)
with_decrement_keeps job v done k = record {
  lengths = record {
    phases = k.lengths.phases;
    observed = k.lengths.observed;
    slots = k.lengths.slots;
    reads = k.lengths.reads;
    stores = k.lengths.stores;
    signals = decremented_length v.signals done ∙ k.lengths.signals;
    memory = k.lengths.memory;
    agents = k.lengths.agents;
    lanes = k.lengths.lanes;
    lane_agents = k.lengths.lane_agents;
  };
  read_rows = k.read_rows;
  stores = λ q l. let s = k.stores q l in record { row = s.row; read = s.read; bytes = s.bytes };
  dirty = record { lanes = k.dirty.lanes; agents = k.dirty.agents };
}

pub moved_finish : (job : Job) (v : StateValue) (p : ℕ) → IsStateOf job v → IfSome (packet job p).done (λ s. s < length v.signals) → MayFinish job (state_of job v) p
    → Moved job v (Event.Finish p) (in_phase (with_decrement v (packet job p).done) p machine.Phase.Complete)
moved_finish job v p k below may =
    let there = may.worked.is_packet in
    let mid = with_decrement v (packet job p).done in
    let count = k.lengths.phases in
    let high : p < length v.phases = omega arith in
    let signal : (λ (s : ℕ). slice_index (decremented v.signals (packet job p).done) s) ≡ (λ (s : ℕ). cond (is_signal s (packet job p).done) (slice_index v.signals s - 1) (slice_index v.signals s)) = λ i s. decremented_is v.signals (packet job p).done below s i in
    let e : state_of job (in_phase mid p machine.Phase.Complete) ≡ completed job (state_of job v) p =
    in_phase_is job mid p machine.Phase.Complete high ∙ (λ i. record (completed job (state_of job v) p) { signal = signal i }) in
    record { is = in_phase_keeps job mid p machine.Phase.Complete (with_decrement_keeps job v (packet job p).done k); step = (there, may.worked.active, may.worked.read, may.worked.stored, may.released, e) }

pub not_finishing : (job : Job) (v : StateValue) (p : ℕ) → (MayFinish job (state_of job v) p → ⊥) → Enabled job v (Event.Finish p) → ⊥
not_finishing job v p n (new, step) = n (record { worked = record { is_packet = step.0; active = step.1; read = step.2; stored = step.3 }; released = step.4 })
