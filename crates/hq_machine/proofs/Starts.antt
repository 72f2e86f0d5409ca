-- The state in which a run starts.
use Rattle.std.proofs.Common.{◌≡◌, ℕ, zero, suc, inl, List, [], length, replicate, true, false, Option, None, slice_index, get_or, refl, sym, ◌∙◌, ap, subst, arith}
use Rattle.std.proofs.lemmas.Bool.{true≢false}
use Rattle.std.proofs.lemmas.List.{length-replicate, get_or-replicate}
use Rattle.std.specs.FinMap as finite
use Rattle.std.specs.Ordering.{nat_cmp}
use Rattle.hq_model.specs.Job.{Job, agent_of}
use Rattle.hq_model.specs.Machine as machine
use Rattle.hq_model.specs.Machine.{start, first_phase, is_dirty}
use Rattle.hq_model.specs.View.{copies_of, phases_of}
use Rattle.hq_copies.specs.Copies.{opened}
use Rattle.hq_events.proofs.Replicated.{of_replicate}
use Rattle.hq_events.specs.Packets.{AllAre}
use Rattle.hq_events.specs.Rows.{StoresValue, no_stores}
use Rattle.hq_machine.specs.State.{StateValue}
use Rattle.hq_machine.specs.View.{Opens, IsStateOf, state_of}

-- the lists of a state in which a run starts
pub record Started (job : Job) (v : StateValue) : Type 0 where
  pub phases : v.phases ≡ replicate (length job.packets) (first_phase job)
  pub observed : v.observed ≡ replicate (length job.packets) (replicate 5 false)
  pub reads : v.reads ≡ replicate (length job.packets) []
  pub stores : v.stores ≡ replicate (length job.packets) no_stores
  pub signals : v.signals ≡ job.starts
  pub opens : Opens job v.copies

nothing_held : (n p b : ℕ) → copies_of (replicate n finite.empty) p b ≡ None
nothing_held n p b = ap (λ m. finite.get m b) (of_replicate n p finite.empty) ∙ finite.get-empty nat_cmp b

value_at : (job : Job) (agents : List ℕ) → StateValue
value_at job agents =
    record {
      phases = replicate (length job.packets) (first_phase job);
      observed = replicate (length job.packets) (replicate 5 false);
      reads = replicate (length job.packets) [];
      stores = replicate (length job.packets) no_stores;
      signals = job.starts;
      copies = opened job.memory job.agents agents;
    }

is_value : (job : Job) (v : StateValue) (s : Started job v) → v ≡ value_at job s.opens.lane_agents
unfolding value_at
is_value job v s = λ i. record { phases = s.phases i; observed = s.observed i; reads = s.reads i; stores = s.stores i; signals = s.signals i; copies = s.opens.copies i }

slot_of_row : (n p slot : ℕ) → get_or (get_or (replicate n (replicate 5 false)) p []) slot false ≡ false
slot_of_row zero p slot = refl
slot_of_row (suc n) zero slot = of_replicate 5 slot false
slot_of_row (suc n) (suc p) slot = slot_of_row n p slot

state_at : (job : Job) (agents : List ℕ) → state_of job (value_at job agents) ≡ start job
unfolding value_at
state_at job agents =
    let phases : phases_of (first_phase job) (replicate (length job.packets) (first_phase job)) ≡ (λ (p : ℕ). first_phase job) = λ j p. of_replicate (length job.packets) p (first_phase job) j in
    let observed : (λ (p slot : ℕ). get_or (get_or (replicate (length job.packets) (replicate 5 false)) p []) slot false) ≡ (λ (p slot : ℕ). false) = λ j p slot. slot_of_row (length job.packets) p slot j in
    let read : (λ (p e : ℕ). get_or {A = Option ℕ} (get_or (replicate (length job.packets) []) p []) e None) ≡ (λ (p e : ℕ). None) = λ j p e. get_or (of_replicate {X = List (Option ℕ)} (length job.packets) p [] j) e None in
    let stored : (λ (p e : ℕ). get_or (StoresValue.stored (get_or (replicate (length job.packets) no_stores) p no_stores)) e false) ≡ (λ (p e : ℕ). false) = λ j p e. get_or (StoresValue.stored (of_replicate (length job.packets) p no_stores j)) e false in
    let agent : copies_of (replicate job.agents finite.empty) ≡ (λ (a b : ℕ). None) = λ j a b. nothing_held job.agents a b j in
    let lane : copies_of (replicate (length agents) finite.empty) ≡ (λ (p b : ℕ). None) = λ j p b. nothing_held (length agents) p b j in
    λ i. record {
      phase = phases i;
      observed = observed i;
      read = read i;
      stored = stored i;
      signal = λ s. slice_index job.starts s;
      memory = λ b. slice_index job.memory b;
      agent = agent i;
      lane = lane i;
    }

not_dirty : (copy : Option machine.Copy) → copy ≡ None → is_dirty copy ≡ true → ⊥
not_dirty copy e d = true≢false (sym d ∙ ap is_dirty e)

is_state_at : (job : Job) (agents : List ℕ) → length agents ≡ length job.packets → AllAre (λ p agent. agent ≡ agent_of job p) agents → IsStateOf job (value_at job agents)
unfolding value_at
is_state_at job agents count are = record {
  lengths = record {
    phases = length-replicate (length job.packets) (first_phase job);
    observed = length-replicate (length job.packets) (replicate 5 false);
    slots = λ p there. ap length (get_or-replicate (length job.packets) p (replicate 5 false) [] there);
    reads = length-replicate (length job.packets) [];
    stores = length-replicate (length job.packets) no_stores;
    signals = refl;
    memory = refl;
    agents = length-replicate job.agents finite.empty;
    lanes = length-replicate (length agents) finite.empty ∙ count;
    lane_agents = λ p there. are.at p 0 (omega arith);
  };
  read_rows = λ p there. inl (ap length (of_replicate (length job.packets) p []));
  stores = λ p there.
      let e = ap (λ row. length (StoresValue.stored row)) (of_replicate (length job.packets) p no_stores) in
      record { row = inl e; read = λ some. absurd (omega arith); bytes = λ some. absurd (omega arith) };
  dirty = record {
    lanes = λ p b d. absurd (not_dirty _ (nothing_held (length agents) p b) d);
    agents = λ a b d. absurd (not_dirty _ (nothing_held job.agents a b) d);
  };
}

pub started_is : (job : Job) (v : StateValue) → Started job v → IsStateOf job v
started_is job v s = subst (IsStateOf job) (sym (is_value job v s)) (is_state_at job s.opens.lane_agents s.opens.count s.opens.are)

pub started_state : (job : Job) (v : StateValue) → Started job v → state_of job v ≡ start job
started_state job v s = ap (state_of job) (is_value job v s) ∙ state_at job s.opens.lane_agents
