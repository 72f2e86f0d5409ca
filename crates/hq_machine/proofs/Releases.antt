-- Pushes of the copies are steps of the machine: of a completion, and of the rest.
use Rattle.std.proofs.Common.{◌≡◌, ℕ, zero, suc, ◌+◌, ◌<◌, ◌≤◌, ◌==◌, inl, inr, IsTrue, IsSome, IfSome, List, [], ◌∷◌, ◌++◌, Bool, true, false, length, map, filter, refl, sym, ◌∙◌, ap, subst, arith}
use Rattle.std.specs.List.{flat_map}
use Rattle.std.proofs.lemmas.Bool.{cases_lt, cond-true, cond-false, eq-eqb, ne_eqb, true≢false}
use Rattle.std.proofs.lemmas.List.{append-nil}
use Rattle.std.proofs.lemmas.List.Elements.{filter-append}
use Rattle.hq_packet.specs.declared.packet.Scope.TheVariants as scope
use Rattle.hq_job.specs.Access.{AreOfQueue}
use Rattle.hq_model.specs.Job.{Job, packet, IsPacket, agent_of}
use Rattle.hq_packet.specs.Scopes.{reaches}
use Rattle.hq_model.specs.Machine as machine
use Rattle.hq_model.specs.Machine.{State, Event, Steps, Released, is_dirty}
use Rattle.hq_model.specs.Machine.Event.{PushLane, PushAgent}
use Rattle.hq_model.specs.Journal.{Pushes, numbers, packets_of, only_if, dirty_bytes, lane_pushes, agent_pushes}
use Rattle.hq_model.specs.Journal.Coarse.{Complete, Rest}
use Rattle.hq_model.specs.Theorems.{Valid}
use Rattle.hq_model.specs.View.{copies_of}
use Rattle.hq_model.proofs.Places.{in_first, in_filter, in_numbers}
use Rattle.hq_model.proofs.Rested.{Each, is_lane_push, is_agent_push, lanes_pushed, agents_pushed, agent_phases, each_lane_push, each_agent_push, dirty_stands, not_dirty, stands_flat, stands_map}
use Rattle.hq_copies.specs.Copies.{CopiesValue}
use Rattle.hq_machine.specs.State.{StateValue}
use Rattle.hq_machine.specs.Pushes.Holders.{Lanes, Agents}
use Rattle.hq_machine.proofs.CopyMoves.{moved_push_lane, moved_push_agent}
use Rattle.hq_machine.proofs.Finishing.{moved_finish}
use Rattle.hq_machine.specs.Changes.{Applied, with_copies, in_phase, with_decrement}
use Rattle.hq_machine.specs.Enabled.{Possible, IsWorked, MayFinish}
use Rattle.hq_machine.specs.Pushes.{AllPushed, Within, WrittenBack, span, pushes_of}
use Rattle.hq_machine.specs.View.{IsStateOf, DirtyWithin, state_of}
use Rattle.hq_events.proofs.Jobs.{agent_below}
use Rattle.hq_machine.proofs.PushLists.{span_none, span_more, can_write_back}

-- ---- the numbers of lanes and agents

pub span_all : (n : ℕ) → span 0 n ≡ numbers n
span_all zero = refl
span_all (suc n) = let e : suc n ≡ n + 1 = omega arith in ap (span 0) e ∙ span_more 0 n (omega arith) ∙ ap (λ xs. xs ++ n ∷ []) (span_all n)

span_one : (a : ℕ) → span a (a + 1) ≡ a ∷ []
span_one a = span_more a a (omega arith) ∙ ap (λ xs. xs ++ a ∷ []) (span_none a)

one_more : (f : ℕ → Bool) (n : ℕ) → f n ≡ true → filter f (numbers (suc n)) ≡ filter f (numbers n) ++ n ∷ []
one_more f n e = filter-append f (numbers n) (n ∷ []) ∙ ap (λ xs. filter f (numbers n) ++ xs) (cond-true (f n) (n ∷ []) [] e)

no_more : (f : ℕ → Bool) (n : ℕ) → f n ≡ false → filter f (numbers (suc n)) ≡ filter f (numbers n)
no_more f n e = filter-append f (numbers n) (n ∷ []) ∙ ap (λ xs. filter f (numbers n) ++ xs) (cond-false (f n) (n ∷ []) [] e) ∙ append-nil (filter f (numbers n))

-- the numbers below n that are of the queue
of_queue_below : (job : Job) (q start stop : ℕ) → AreOfQueue job q start stop → (n : ℕ) → n ≤ length job.packets → (end : ℕ) → (n ≤ start → end ≡ start) → (start ≤ n → n ≤ stop → end ≡ n) → (start ≤ n → stop ≤ n → start ≤ stop → end ≡ stop)
    → start ≤ stop → filter (λ (l : ℕ). (packet job l).queue == q) (numbers n) ≡ span start end
of_queue_below job q start stop are zero l end low mid high rising = let e : end ≡ start = low (omega arith) in sym (ap (span start) e ∙ span_none start)
of_queue_below job q start stop are (suc n) l end low mid high rising = elim (cases_lt n start) [
  | inl below ↦
      let e = low (omega arith) in
      no_more (λ (l : ℕ). (packet job l).queue == q) n (ne_eqb (packet job n).queue q (λ s. let h = are.within n (omega arith) s in omega arith))
      ∙ of_queue_below job q start stop are n (omega arith) end (λ _. e) (λ a b. absurd (omega arith)) (λ a b c. absurd (omega arith)) rising
  | inr above ↦ elim (cases_lt n stop) [
    | inl within ↦
        let e : end ≡ n + 1 = mid (omega arith) (omega arith) ∙ omega arith in
        one_more (λ (l : ℕ). (packet job l).queue == q) n (eq-eqb (packet job n).queue q (are.of_queue n above within).1)
        ∙ ap (λ xs. xs ++ n ∷ []) (of_queue_below job q start stop are n (omega arith) n (λ h. omega arith) (λ a b. refl) (λ a b c. omega arith) rising)
        ∙ sym (ap (span start) e ∙ span_more start n above)
    | inr past ↦
        let e = high (omega arith) (omega arith) rising in
        no_more (λ (l : ℕ). (packet job l).queue == q) n (ne_eqb (packet job n).queue q (λ s. let h = are.within n (omega arith) s in omega arith))
        ∙ of_queue_below job q start stop are n (omega arith) end (λ h. omega arith) (λ a b. omega arith) (λ a b c. e) rising
  ]
]

only_true : (xs : List ℕ) → only_if true xs ≡ xs
only_true [] = refl
only_true (x ∷ xs) = ap (λ ys. x ∷ ys) (only_true xs)

only_false : (xs : List ℕ) → only_if false xs ≡ []
only_false [] = refl
only_false (x ∷ xs) = only_false xs

-- the lanes and the agents of p's release fence
abbrev pub lanes_of : Job → ℕ → List ℕ
lanes_of job p = only_if (reaches (packet job p).release scope.Agent) (packets_of job (λ l. (packet job l).queue == (packet job p).queue))

abbrev pub agents_of : Job → ℕ → List ℕ
agents_of job p = only_if (reaches (packet job p).release scope.System) (agent_of job p ∷ [])

-- the lanes that p's release fence reaches: from start up to stop, or none
pub record LanesOf (job : Job) (p start stop : ℕ) : Type 0 where
  pub rising : start ≤ stop
  pub within : stop ≤ length job.packets
  pub some : reaches (packet job p).release scope.Agent ≡ true → AreOfQueue job (packet job p).queue start stop
  pub none : reaches (packet job p).release scope.Agent ≡ false → start ≡ stop

-- the agent that it reaches, or none
pub record AgentsOf (job : Job) (p start stop : ℕ) : Type 0 where
  pub rising : start ≤ stop
  pub within : stop ≤ job.agents
  pub some : reaches (packet job p).release scope.System ≡ true → (start ≡ agent_of job p) × (stop ≡ start + 1)
  pub none : reaches (packet job p).release scope.System ≡ false → start ≡ stop

lanes_are : (job : Job) (p start stop : ℕ) → LanesOf job p start stop → lanes_of job p ≡ span start stop
lanes_are job p start stop are = go (reaches (packet job p).release scope.Agent) refl
  where
    go : (t : Bool) → reaches (packet job p).release scope.Agent ≡ t → lanes_of job p ≡ span start stop
    go true e =
        ap (λ b. only_if b (packets_of job (λ l. (packet job l).queue == (packet job p).queue))) e
        ∙ only_true (packets_of job (λ l. (packet job l).queue == (packet job p).queue))
        ∙ of_queue_below job (packet job p).queue start stop (are.some e) (length job.packets) (omega arith) stop (λ h. omega (arith, are.rising, are.within)) (λ a b. omega (arith, are.within)) (λ a b c. refl) are.rising
    go false e =
        ap (λ b. only_if b (packets_of job (λ l. (packet job l).queue == (packet job p).queue))) e
        ∙ only_false (packets_of job (λ l. (packet job l).queue == (packet job p).queue))
        ∙ sym (ap (span start) (sym (are.none e)) ∙ span_none start)

agents_are : (job : Job) (p start stop : ℕ) → AgentsOf job p start stop → agents_of job p ≡ span start stop
agents_are job p start stop are = go (reaches (packet job p).release scope.System) refl
  where
    go : (t : Bool) → reaches (packet job p).release scope.System ≡ t → agents_of job p ≡ span start stop
    go true e =
        let (at, next) = are.some e in
        ap (λ b. only_if b (agent_of job p ∷ [])) e ∙ ap (λ x. x ∷ []) (sym at) ∙ sym (ap (span start) next ∙ span_one start)
    go false e = ap (λ b. only_if b (agent_of job p ∷ [])) e ∙ sym (ap (span start) (sym (are.none e)) ∙ span_none start)

-- ---- pushes are steps

pub within_of : (job : Job) (v : StateValue) → Valid job → IsStateOf job v → Within v.copies
within_of job v valid k = record {
  lanes = λ p b d. subst (λ n. b < n) (sym k.lengths.memory) (k.dirty.lanes p b d);
  agents = λ a b d. subst (λ n. b < n) (sym k.lengths.memory) (k.dirty.agents a b d);
  agents_there = λ p l.
      let there : IsPacket job p = subst (λ n. p < n) k.lengths.lanes l in
      let low = agent_below job p valid there in
      omega (arith, k.lengths.lane_agents p there, low, k.lengths.agents);
}

carried : (job : Job) (v : StateValue) (events : List Event) (c : CopiesValue) → Valid job → IsStateOf job v → AllPushed v.copies events c → IsStateOf job (with_copies v c) × Steps job (state_of job v) events (state_of job (with_copies v c))
carried job v [] c valid k is = (subst (λ x. IsStateOf job (with_copies v x)) (sym is) k, ap (λ x. state_of job (with_copies v x)) is)
carried job v (PushLane p b ∷ events) c valid k (mid, ((l, m), pushed), rest) =
    let moved = moved_push_lane job v p b mid valid k (subst (λ n. p < n) k.lengths.lanes l) (subst (λ n. b < n) k.lengths.memory m) pushed in
    let (is, steps) = carried job (with_copies v mid) events c valid moved.is rest in
    (is, (state_of job (with_copies v mid), moved.step, steps))
carried job v (PushAgent a b ∷ events) c valid k (mid, ((l, m), pushed), rest) =
    let moved = moved_push_agent job v a b mid valid k (subst (λ n. a < n) k.lengths.agents l) (subst (λ n. b < n) k.lengths.memory m) pushed in
    let (is, steps) = carried job (with_copies v mid) events c valid moved.is rest in
    (is, (state_of job (with_copies v mid), moved.step, steps))
carried job v (event ∷ events) c valid k (mid, none, rest) = absurd none

lane_list : (job : Job) (v : StateValue) (ks : List ℕ) → IsStateOf job v → pushes_of Lanes v.copies ks ≡ lane_pushes job (state_of job v) ks
lane_list job v ks k = ap (λ n. flat_map (λ p. map (PushLane p) (filter (λ b. is_dirty (copies_of v.copies.lanes p b)) (numbers n))) ks) k.lengths.memory

agent_list : (job : Job) (v : StateValue) (ks : List ℕ) → IsStateOf job v → pushes_of Agents v.copies ks ≡ agent_pushes job (state_of job v) ks
agent_list job v ks k = ap (λ n. flat_map (λ a. map (PushAgent a) (filter (λ b. is_dirty (copies_of v.copies.agents a b)) (numbers n))) ks) k.lengths.memory

-- the pushes, as the model has them
record Written (job : Job) (v : StateValue) (lanes agents : List ℕ) (c : CopiesValue) : Type 0 where
  pub is : IsStateOf job (with_copies v c)
  pub pushes : Pushes job (state_of job v) lanes agents (state_of job (with_copies v c))

written : (job : Job) (v : StateValue) (lane lanes agent agents : ℕ) (c : CopiesValue) → Valid job → IsStateOf job v → WrittenBack v.copies lane lanes agent agents c → Written job v (span lane lanes) (span agent agents) c
written job v lane lanes agent agents c valid k w =
    let (first, a) = carried job v (pushes_of Lanes v.copies (span lane lanes)) w.mid valid k w.lanes_swept.run in
    let between = with_copies v w.mid in
    let (last, b) = carried job between (pushes_of Agents w.mid (span agent agents)) c valid first w.agents_swept.run in
    record {
      is = last;
      pushes = (
        state_of job between,
        subst (λ xs. Steps job (state_of job v) xs (state_of job between)) (lane_list job v (span lane lanes) k) a,
        subst (λ xs. Steps job (state_of job between) xs (state_of job (with_copies v c))) (agent_list job between (span agent agents) first) b,
      );
    }

-- ---- the rest

pub applied_rest : (job : Job) (v : StateValue) (c : CopiesValue) → Valid job → IsStateOf job v → WrittenBack v.copies 0 (length job.packets) 0 job.agents c → Applied job v Rest (with_copies v c)
applied_rest job v c valid k w =
    let all = written job v 0 (length job.packets) 0 job.agents c valid k w in
    record {
      is = all.is;
      happens =
          subst (λ ls. Pushes job (state_of job v) ls (numbers job.agents) (state_of job (with_copies v c))) (span_all (length job.packets))
          (subst (λ as'. Pushes job (state_of job v) (span 0 (length job.packets)) as' (state_of job (with_copies v c))) (span_all job.agents) all.pushes);
    }

pub possible_rest : (job : Job) (v : StateValue) → Valid job → IsStateOf job v → Possible job v Rest
possible_rest job v valid k =
    let (c, w) = can_write_back v.copies 0 (length job.packets) 0 job.agents (within_of job v valid k) (omega arith) (omega (arith, k.lengths.lanes)) (omega arith) (omega (arith, k.lengths.agents)) in
    (state_of job (with_copies v c), (applied_rest job v c valid k w).happens)

-- ---- what pushes leave as it was

record Same (old new : State) : Type 0 where
  pub phase : new.phase ≡ old.phase
  pub read : new.read ≡ old.read
  pub stored : new.stored ≡ old.stored

lane_same : (job : Job) (old : State) (events : List Event) (new : State) → Each is_lane_push events → Steps job old events new → Same old new
lane_same job old [] new each is = record { phase = ap (λ s. s.phase) is; read = ap (λ s. s.read) is; stored = ap (λ s. s.stored) is }
lane_same job old (PushLane q c ∷ events) new (e, each) (mid, step, rest) =
    let same = lane_same job mid events new each rest in
    record { phase = same.phase ∙ ap (λ s. s.phase) step.4; read = same.read ∙ ap (λ s. s.read) step.4; stored = same.stored ∙ ap (λ s. s.stored) step.4 }
lane_same job old (event ∷ events) new (e, each) run = absurd (true≢false (sym e))

agent_same : (job : Job) (old : State) (events : List Event) (new : State) → Each is_agent_push events → Steps job old events new → Same old new
agent_same job old [] new each is = record { phase = ap (λ s. s.phase) is; read = ap (λ s. s.read) is; stored = ap (λ s. s.stored) is }
agent_same job old (PushAgent q c ∷ events) new (e, each) (mid, step, rest) =
    let same = agent_same job mid events new each rest in
    record { phase = same.phase ∙ ap (λ s. s.phase) step.4; read = same.read ∙ ap (λ s. s.read) step.4; stored = same.stored ∙ ap (λ s. s.stored) step.4 }
agent_same job old (event ∷ events) new (e, each) run = absurd (true≢false (sym e))

-- ---- the completion

released : (job : Job) (p : ℕ) (old mid last : State) → DirtyWithin job last → Steps job old (lane_pushes job old (lanes_of job p)) mid → Steps job mid (agent_pushes job mid (agents_of job p)) last → Released job last p (packet job p).release
released job p old mid last inside a b = record {
  lanes = λ h l c there same. not_dirty (is_dirty (last.lane l c)) (λ d.
      let kept = (agent_phases job mid (agent_pushes job mid (agents_of job p)) last (each_agent_push job mid (agents_of job p)) b).1 in
      let (was, none) = lanes_pushed job old (lane_pushes job old (lanes_of job p)) mid (each_lane_push job old (lanes_of job p)) a l c (ap (λ f. is_dirty (f l c)) (sym kept) ∙ d) in
      none (stands_flat (λ q. map (PushLane q) (dirty_bytes job (old.lane q))) (lanes_of job p) l (PushLane l c)
      (in_filter (λ _. reaches (packet job p).release scope.Agent) (packets_of job (λ q. (packet job q).queue == (packet job p).queue)) l h
      (in_filter (λ q. (packet job q).queue == (packet job p).queue) (numbers (length job.packets)) l (eq-eqb (packet job l).queue (packet job p).queue same) (in_numbers (length job.packets) l there)))
      (stands_map (PushLane l) (dirty_bytes job (old.lane l)) c (dirty_stands job (old.lane l) c (inside.lanes l c d) was))));
  agent = λ h c. not_dirty (is_dirty (last.agent (agent_of job p) c)) (λ d.
      let (was, none) = agents_pushed job mid (agent_pushes job mid (agents_of job p)) last (each_agent_push job mid (agents_of job p)) b (agent_of job p) c d in
      none (stands_flat (λ q. map (PushAgent q) (dirty_bytes job (mid.agent q))) (agents_of job p) (agent_of job p) (PushAgent (agent_of job p) c)
      (in_filter (λ _. reaches (packet job p).release scope.System) (agent_of job p ∷ []) (agent_of job p) h (in_first (agent_of job p) [] (agent_of job p) refl))
      (stands_map (PushAgent (agent_of job p)) (dirty_bytes job (mid.agent (agent_of job p))) c (dirty_stands job (mid.agent (agent_of job p)) c (inside.agents (agent_of job p) c d) was))));
}

pub applied_complete : (job : Job) (v : StateValue) (p lane lanes agent agents : ℕ) (c : CopiesValue) → Valid job → IsStateOf job v → IsWorked job (state_of job v) p → IfSome (packet job p).done (λ s. s < length v.signals) → LanesOf job p lane lanes → AgentsOf job p agent agents → WrittenBack v.copies lane lanes agent agents c
    → Applied job v (Complete p) (in_phase (with_decrement (with_copies v c) (packet job p).done) p machine.Phase.Complete)
applied_complete job v p lane lanes agent agents c valid k worked below of on w =
    let all = written job v lane lanes agent agents c valid k w in
    let next = with_copies v c in
    let pushes : Pushes job (state_of job v) (lanes_of job p) (agents_of job p) (state_of job next) =
    subst (λ ls. Pushes job (state_of job v) ls (agents_of job p) (state_of job next)) (sym (lanes_are job p lane lanes of))
    (subst (λ as'. Pushes job (state_of job v) (span lane lanes) as' (state_of job next)) (sym (agents_are job p agent agents on)) all.pushes) in
    let may : MayFinish job (state_of job next) p = record {
      worked = record { is_packet = worked.is_packet; active = worked.active; read = worked.read; stored = worked.stored };
      released = released job p (state_of job v) pushes.0 (state_of job next) all.is.dirty pushes.1 pushes.2;
    } in
    let moved = moved_finish job next p all.is below may in
    record { is = moved.is; happens = (state_of job next, pushes, (_, moved.step, refl)) }

pub possible_complete : (job : Job) (v : StateValue) (p lane lanes agent agents : ℕ) → Valid job → IsStateOf job v → IsWorked job (state_of job v) p → IfSome (packet job p).done (λ s. s < length v.signals) → LanesOf job p lane lanes → AgentsOf job p agent agents
    → Possible job v (Complete p)
possible_complete job v p lane lanes agent agents valid k worked below of on =
    let (c, w) = can_write_back v.copies lane lanes agent agents (within_of job v valid k) of.rising (omega (arith, of.within, k.lengths.lanes)) on.rising (omega (arith, on.within, k.lengths.agents)) in
    (_, (applied_complete job v p lane lanes agent agents c valid k worked below of on w).happens)

pub not_worked : (job : Job) (v : StateValue) (p : ℕ) → (IsWorked job (state_of job v) p → ⊥) → Possible job v (Complete p) → ⊥
not_worked job v p none (new, (mid, (between, a, b), (last, step, is))) =
    let old = state_of job v in
    let first = lane_same job old (lane_pushes job old (lanes_of job p)) between (each_lane_push job old (lanes_of job p)) a in
    let second = agent_same job between (agent_pushes job between (agents_of job p)) mid (each_agent_push job between (agents_of job p)) b in
    none (record {
      is_packet = step.0;
      active = ap (λ f. f p) (sym (second.phase ∙ first.phase)) ∙ step.1;
      read = λ i l. subst (λ f. IsSome (f p i)) (second.read ∙ first.read) (step.2 i l);
      stored = λ i l. subst (λ f. IsTrue (f p i)) (second.stored ∙ first.stored) (step.3 i l);
    })
