-- Pushes, fills and drops.
use Rattle.std.proofs.Common.{◌≡◌, ℕ, ◌<◌, ◌⊎◌, inl, inr, List, true, false, None, length, set, get_or, slice_index, refl, sym, ◌∙◌, ap, subst, arith, length-set, get_or-set_same, get_or-set_other}
use Rattle.std.proofs.lemmas.Bool.{cases_eq}
use Rattle.hq_model.specs.Job.{Job, IsPacket, agent_of}
use Rattle.hq_model.specs.Machine.{Event, Step, IsByte, put, put2, clean, dirty, agent_sees}
use Rattle.hq_model.specs.Machine.Event.{PushLane, PushAgent, FillLane, FillAgent, DropLane, DropAgent}
use Rattle.hq_model.specs.Theorems.{Valid}
use Rattle.hq_model.specs.View.{copies_of}
use Rattle.hq_model.proofs.View.{copies_of_insert}
use Rattle.hq_model.proofs.Sums.{put_same, put_other}
use Rattle.hq_copies.specs.Copies.{CopiesValue, PushedLane, PushedAgent, IsDirty, IsClean, IsAbsent, a_copy, agent_byte, lane_pushed, agent_pushed, lane_filled, agent_filled, lane_dropped, agent_dropped}
use Rattle.hq_copies.specs.declared.fault.CopiesFault.{CopiesFault}
use Rattle.hq_copies.specs.declared.fault.CopiesFault.TheVariants as copies_fault
use Rattle.hq_machine.specs.Changes.{Moved, with_copies, fault_of}
use Rattle.hq_machine.specs.Enabled.{Refused}
use Rattle.hq_machine.specs.State.{StateValue}
use Rattle.hq_machine.specs.View.{IsStateOf, DirtyWithin, state_of}
use Rattle.hq_events.proofs.Jobs.{agent_below}
use Rattle.hq_machine.proofs.Places.{copies_of_remove}
use Rattle.hq_machine.proofs.Within.{within_step}

-- as many maps and bytes, and the lanes on the same agents
pub record SameShape (old new : CopiesValue) : Type 0 where
  pub memory : length new.memory ≡ length old.memory
  pub agents : length new.agents ≡ length old.agents
  pub lanes : length new.lanes ≡ length old.lanes
  pub lane_agents : new.lane_agents ≡ old.lane_agents

pub with_copies_keeps : (job : Job) (v : StateValue) (copies : CopiesValue) → IsStateOf job v → SameShape v.copies copies → DirtyWithin job (state_of job (with_copies v copies)) → IsStateOf job (with_copies v copies)
with_copies_keeps job v copies k s d = record {
  lengths = record {
    phases = k.lengths.phases;
    observed = k.lengths.observed;
    slots = k.lengths.slots;
    reads = k.lengths.reads;
    stores = k.lengths.stores;
    signals = k.lengths.signals;
    memory = s.memory ∙ k.lengths.memory;
    agents = s.agents ∙ k.lengths.agents;
    lanes = s.lanes ∙ k.lengths.lanes;
    lane_agents = λ p there. ap (λ (xs : List ℕ). slice_index xs p) s.lane_agents ∙ k.lengths.lane_agents p there;
  };
  read_rows = k.read_rows;
  stores = λ q there. let s = k.stores q there in record { row = s.row; read = s.read; bytes = s.bytes };
  dirty = d;
}

pub with_copies_moved : (job : Job) (v : StateValue) (copies : CopiesValue) (event : Event) → Valid job → IsStateOf job v → SameShape v.copies copies → Step job (state_of job v) event (state_of job (with_copies v copies)) → Moved job v event (with_copies v copies)
with_copies_moved job v copies event valid k s step =
    record { is = with_copies_keeps job v copies k s (within_step job (state_of job v) event (state_of job (with_copies v copies)) valid k.dirty step); step = step }

pub list_put : (xs : List ℕ) (k x : ℕ) → k < length xs → (λ (n : ℕ). slice_index (set xs k x) n) ≡ put (λ (n : ℕ). slice_index xs n) k x
list_put xs k x l = λ i n. at n i
  where
    at : (n : ℕ) → slice_index (set xs k x) n ≡ put (λ (n : ℕ). slice_index xs n) k x n
    at n = elim (cases_eq n k) [
      | inl e ↦ ap (λ m. get_or (set xs k x) m 0) e ∙ get_or-set_same xs k x 0 l ∙ sym (put_same (λ (n : ℕ). slice_index xs n) k x n e)
      | inr d ↦ get_or-set_other xs k n x 0 d ∙ sym (put_other (λ (n : ℕ). slice_index xs n) k x n d)
    ]

-- ---- the steps

pub moved_push_lane : (job : Job) (v : StateValue) (p b : ℕ) (copies : CopiesValue) → Valid job → IsStateOf job v → IsPacket job p → IsByte job b → PushedLane v.copies p b copies → Moved job v (PushLane p b) (with_copies v copies)
moved_push_lane job v p b copies valid k there within (value, held, is) =
    let a = slice_index v.copies.lane_agents p in
    let on : a ≡ agent_of job p = k.lengths.lane_agents p there in
    let low = agent_below job p valid there in
    let lanes = copies_of_insert v.copies.lanes p b (a_copy value false) (omega (arith, k.lengths.lanes)) in
    let agents = copies_of_insert v.copies.agents a b (a_copy value true) (omega (arith, k.lengths.agents)) ∙ ap (λ x. put2 (copies_of v.copies.agents) x b (dirty value)) on in
    let new : state_of job (with_copies v (lane_pushed v.copies p b value)) ≡ record (state_of job v) { lane = put2 (copies_of v.copies.lanes) p b (clean value); agent = put2 (copies_of v.copies.agents) (agent_of job p) b (dirty value) } =
    λ i. record (state_of job v) { lane = lanes i; agent = agents i } in
    subst (λ c. Moved job v (PushLane p b) (with_copies v c)) (sym is)
    (with_copies_moved job v (lane_pushed v.copies p b value) (PushLane p b) valid k (record { memory = refl; agents = length-set v.copies.agents a _; lanes = length-set v.copies.lanes p _; lane_agents = refl }) (value, there, within, held, new))

pub moved_push_agent : (job : Job) (v : StateValue) (a b : ℕ) (copies : CopiesValue) → Valid job → IsStateOf job v → a < job.agents → IsByte job b → PushedAgent v.copies a b copies → Moved job v (PushAgent a b) (with_copies v copies)
moved_push_agent job v a b copies valid k there within (value, held, is) =
    let agents = copies_of_insert v.copies.agents a b (a_copy value false) (omega (arith, k.lengths.agents)) in
    let memory = list_put v.copies.memory b value (omega (arith, k.lengths.memory)) in
    let new : state_of job (with_copies v (agent_pushed v.copies a b value)) ≡ record (state_of job v) { agent = put2 (copies_of v.copies.agents) a b (clean value); memory = put (λ (b : ℕ). slice_index v.copies.memory b) b value } =
    λ i. record (state_of job v) { agent = agents i; memory = memory i } in
    subst (λ c. Moved job v (PushAgent a b) (with_copies v c)) (sym is)
    (with_copies_moved job v (agent_pushed v.copies a b value) (PushAgent a b) valid k (record { memory = length-set v.copies.memory b value; agents = length-set v.copies.agents a _; lanes = refl; lane_agents = refl }) (value, there, within, held, new))

pub moved_fill_lane : (job : Job) (v : StateValue) (p b : ℕ) (copies : CopiesValue) → Valid job → IsStateOf job v → IsPacket job p → IsByte job b → IsAbsent (copies_of v.copies.lanes p b) × (copies ≡ lane_filled v.copies p b) → Moved job v (FillLane p b) (with_copies v copies)
moved_fill_lane job v p b copies valid k there within (held, is) =
    let on : slice_index v.copies.lane_agents p ≡ agent_of job p = k.lengths.lane_agents p there in
    let lanes = copies_of_insert v.copies.lanes p b (a_copy (agent_byte v.copies (slice_index v.copies.lane_agents p) b) false) (omega (arith, k.lengths.lanes)) ∙ ap (λ a. put2 (copies_of v.copies.lanes) p b (clean (agent_byte v.copies a b))) on in
    let new : state_of job (with_copies v (lane_filled v.copies p b)) ≡ record (state_of job v) { lane = put2 (copies_of v.copies.lanes) p b (clean (agent_sees (state_of job v) (agent_of job p) b)) } =
    λ i. record (state_of job v) { lane = lanes i } in
    subst (λ c. Moved job v (FillLane p b) (with_copies v c)) (sym is)
    (with_copies_moved job v (lane_filled v.copies p b) (FillLane p b) valid k (record { memory = refl; agents = refl; lanes = length-set v.copies.lanes p _; lane_agents = refl }) (there, within, held, new))

pub moved_fill_agent : (job : Job) (v : StateValue) (a b : ℕ) (copies : CopiesValue) → Valid job → IsStateOf job v → a < job.agents → IsByte job b → IsAbsent (copies_of v.copies.agents a b) × (copies ≡ agent_filled v.copies a b) → Moved job v (FillAgent a b) (with_copies v copies)
moved_fill_agent job v a b copies valid k there within (held, is) =
    let agents = copies_of_insert v.copies.agents a b (a_copy (slice_index v.copies.memory b) false) (omega (arith, k.lengths.agents)) in
    let new : state_of job (with_copies v (agent_filled v.copies a b)) ≡ record (state_of job v) { agent = put2 (copies_of v.copies.agents) a b (clean (slice_index v.copies.memory b)) } =
    λ i. record (state_of job v) { agent = agents i } in
    subst (λ c. Moved job v (FillAgent a b) (with_copies v c)) (sym is)
    (with_copies_moved job v (agent_filled v.copies a b) (FillAgent a b) valid k (record { memory = refl; agents = length-set v.copies.agents a _; lanes = refl; lane_agents = refl }) (there, within, held, new))

pub moved_drop_lane : (job : Job) (v : StateValue) (p b : ℕ) (copies : CopiesValue) → Valid job → IsStateOf job v → IsPacket job p → IsByte job b → IsClean (copies_of v.copies.lanes p b) × (copies ≡ lane_dropped v.copies p b) → Moved job v (DropLane p b) (with_copies v copies)
moved_drop_lane job v p b copies valid k there within ((value, held), is) =
    let lanes = copies_of_remove v.copies.lanes p b (omega (arith, k.lengths.lanes)) in
    let new : state_of job (with_copies v (lane_dropped v.copies p b)) ≡ record (state_of job v) { lane = put2 (copies_of v.copies.lanes) p b None } =
    λ i. record (state_of job v) { lane = lanes i } in
    subst (λ c. Moved job v (DropLane p b) (with_copies v c)) (sym is)
    (with_copies_moved job v (lane_dropped v.copies p b) (DropLane p b) valid k (record { memory = refl; agents = refl; lanes = length-set v.copies.lanes p _; lane_agents = refl }) (value, there, within, held, new))

pub moved_drop_agent : (job : Job) (v : StateValue) (a b : ℕ) (copies : CopiesValue) → Valid job → IsStateOf job v → a < job.agents → IsByte job b → IsClean (copies_of v.copies.agents a b) × (copies ≡ agent_dropped v.copies a b) → Moved job v (DropAgent a b) (with_copies v copies)
moved_drop_agent job v a b copies valid k there within ((value, held), is) =
    let agents = copies_of_remove v.copies.agents a b (omega (arith, k.lengths.agents)) in
    let new : state_of job (with_copies v (agent_dropped v.copies a b)) ≡ record (state_of job v) { agent = put2 (copies_of v.copies.agents) a b None } =
    λ i. record (state_of job v) { agent = agents i } in
    subst (λ c. Moved job v (DropAgent a b) (with_copies v c)) (sym is)
    (with_copies_moved job v (agent_dropped v.copies a b) (DropAgent a b) valid k (record { memory = refl; agents = length-set v.copies.agents a _; lanes = refl; lane_agents = refl }) (value, there, within, held, new))

-- ---- why they are refused

pub refused_push_lane : (job : Job) (v : StateValue) (p b : ℕ) (f : CopiesFault) → IsPacket job p → IsByte job b → (f ≡ copies_fault.NotDirty → IsDirty (copies_of v.copies.lanes p b) → ⊥) → (f ≡ copies_fault.NotDirty) ⊎ ((f ≡ copies_fault.Memory) × IsDirty (copies_of v.copies.lanes p b)) → Refused job v (PushLane p b) (fault_of f)
refused_push_lane job v p b f there within clean' (inl e) = subst (λ g. Refused job v (PushLane p b) (fault_of g)) (sym e) (λ (new, step). clean' e (step.0, step.3))
refused_push_lane job v p b f there within clean' (inr (e, held)) = subst (λ g. Refused job v (PushLane p b) (fault_of g)) (sym e) (_, (held.0, there, within, held.1, refl))

pub refused_push_agent : (job : Job) (v : StateValue) (a b : ℕ) (f : CopiesFault) → a < job.agents → IsByte job b → (f ≡ copies_fault.NotDirty → IsDirty (copies_of v.copies.agents a b) → ⊥) → (f ≡ copies_fault.NotDirty) ⊎ ((f ≡ copies_fault.Memory) × IsDirty (copies_of v.copies.agents a b)) → Refused job v (PushAgent a b) (fault_of f)
refused_push_agent job v p b f there within clean' (inl e) = subst (λ g. Refused job v (PushAgent p b) (fault_of g)) (sym e) (λ (new, step). clean' e (step.0, step.3))
refused_push_agent job v p b f there within clean' (inr (e, held)) = subst (λ g. Refused job v (PushAgent p b) (fault_of g)) (sym e) (_, (held.0, there, within, held.1, refl))
