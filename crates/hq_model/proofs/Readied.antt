-- What a packet still has to read, to store and to push before its completion can be done.
use Rattle.std.proofs.Common.{◌≡◌, ℕ, zero, suc, ◌<◌, ◌≤◌, ◌==◌, inl, inr, IsTrue, IsSome, refl, sym, ◌∙◌, ap, subst, arith}
use Rattle.std.proofs.Common.{Bool, true, false, List, [], ◌∷◌, ◌++◌, length, All, Option, Some, None, slice_index}
use Rattle.std.proofs.lemmas.Bool.{cases_eq, true≢false}
use Rattle.std.proofs.lemmas.List.Elements.{All-nil, All-cons, All-head, All-tail, All-append}
use Rattle.hq_packet.specs.declared.packet.Scope.TheVariants as scope
use Rattle.hq_model.specs.Job.{Job, packet, IsPacket, agent_of}
use Rattle.hq_packet.specs.Scopes.{reaches}
use Rattle.hq_model.specs.Machine.{State, Event, Step, Steps, Run, AllRead, start, put2, lane_sees, dirty, bytes_stored, completed}
use Rattle.hq_model.specs.Machine.Phase.{Active}
use Rattle.hq_model.specs.Machine.Event.{Enter, Finish, Read, Store, PushLane, PushAgent}
use Rattle.hq_model.specs.Journal.{Coarse, Happens, lane_pushes, agent_pushes, only_if, packets_of}
use Rattle.hq_model.specs.Theorems.{Valid}
use Rattle.hq_model.proofs.Sums.{put_same, put2_same, put2_other}
use Rattle.hq_model.proofs.Journals.{steps_append}
use Rattle.hq_model.proofs.Rested.{Each, is_lane_push, is_agent_push, each_lane_push, each_agent_push}
use Rattle.hq_model.proofs.Finished.{complete_possible}
use Rattle.hq_model.specs.Readied.{Readies, SameProgress, Readied, CompletionReached, EntryReadied}

all_first : {X : Type 0} (P : X → Type 0) (xs ys : List X) → All P (xs ++ ys) → All P xs
all_first P [] ys all = All-nil P
all_first P (x ∷ xs) ys all = All-cons P x xs (All-head P x (xs ++ ys) all) (all_first P xs ys (All-tail P x (xs ++ ys) all))

module _ (job : Job) (p : ℕ) where
  -- ---- phases, observed slots and signals stay

  same_new : (old new changed : State) → SameProgress old changed → new ≡ changed → SameProgress old new
  same_new old new changed same is = subst (SameProgress old) (sym is) same

  same_step : (old : State) (event : Event) (new : State) → Readies p event → Step job old event new → SameProgress old new
  same_step old (Read r i) new own step = same_new old new _ (record { phase = refl; observed = refl; signal = refl }) step.4
  same_step old (Store r i) new own step = same_new old new _ (record { phase = refl; observed = refl; signal = refl }) step.5
  same_step old (PushLane l b) new own step = same_new old new _ (record { phase = refl; observed = refl; signal = refl }) step.4
  same_step old (PushAgent a b) new own step = same_new old new _ (record { phase = refl; observed = refl; signal = refl }) step.4
  same_step old event new own step = absurd own

  same_steps : (old : State) (events : List Event) (new : State) → All (Readies p) events → Steps job old events new → SameProgress old new
  same_steps old [] new own is = same_new old new old (record { phase = refl; observed = refl; signal = refl }) is
  same_steps old (event ∷ events) new own (mid, step, rest) =
      let first = same_step old event mid (All-head (Readies p) event events own) step in
      let then = same_steps mid events new (All-tail (Readies p) event events own) rest in
      record {
        phase = then.phase ∙ first.phase;
        observed = then.observed ∙ first.observed;
        signal = then.signal ∙ first.signal;
      }

  -- ---- steps towards the completion

  -- From old they lead to a state of which this holds.
  record Onward (old : State) (Holds : State → Type 0) : Type 0 where
    pub events : List Event
    pub new : State
    pub steps : Steps job old events new
    pub own : All (Readies p) events
    pub holds : Holds new

  nothing : (old : State) (Holds : State → Type 0) → Holds old → Onward old Holds
  nothing old Holds h = record { events = []; new = old; steps = refl; own = All-nil (Readies p); holds = h }

  one : (old : State) (event : Event) (new : State) (Holds : State → Type 0)
      → Readies p event → Step job old event new → Holds new → Onward old Holds
  one old event new Holds own step h = record {
    events = event ∷ [];
    new = new;
    steps = (new, step, refl);
    own = All-cons (Readies p) event [] own (All-nil (Readies p));
    holds = h;
  }

  joined : (old : State) (First Then : State → Type 0) (w : Onward old First) → Onward w.new Then → Onward old Then
  joined old First Then w v = record {
    events = w.events ++ v.events;
    new = v.new;
    steps = steps_append job old w.events w.new v.events v.new w.steps v.steps;
    own = All-append (Readies p) w.events v.events w.own v.own;
    holds = v.holds;
  }

  abbrev IsActive : State → Type 0
  IsActive state = state.phase p ≡ Active

  still_active : (old : State) (Holds : State → Type 0) (w : Onward old Holds) → IsActive old → IsActive w.new
  still_active old Holds w active = ap (λ f. f p) (same_steps old w.events w.new w.own w.steps).phase ∙ active

  -- ---- the reads

  abbrev reads : ℕ
  reads = length (packet job p).reads

  abbrev ReadTo : ℕ → State → Type 0
  ReadTo n state = (i : ℕ) → i < n → IsSome (state.read p i)

  read_next : (old : State) (n : ℕ) (r : Option ℕ)
      → IsPacket job p → IsActive old → n < reads → ReadTo n old → old.read p n ≡ r → Onward old (ReadTo (suc n))
  read_next old n None there active within was e =
      let x = Some (lane_sees job old p (slice_index (packet job p).reads n)) in
      let new : State = record old { read = put2 old.read p n x } in
      one old (Read p n) new (ReadTo (suc n)) refl (there, active, within, e, refl) (λ i l. elim (cases_eq i n) [
        | inl d ↦ subst IsSome (sym (put2_same old.read p n x p i refl d)) refl
        | inr d ↦ subst IsSome (sym (put2_other old.read p n x p i (λ _ g. d g))) (was i (omega (arith, l, d)))
      ])
  read_next old n (Some x) there active within was e = nothing old (ReadTo (suc n)) (λ i l. elim (cases_eq i n) [
    | inl d ↦ subst IsSome (sym (ap (old.read p) d ∙ e)) refl
    | inr d ↦ was i (omega (arith, l, d))
  ])

  read_to : (old : State) (n : ℕ) → IsPacket job p → IsActive old → n ≤ reads → Onward old (ReadTo n)
  read_to old zero there active within = nothing old (ReadTo zero) (λ i l. absurd (omega (arith, l)))
  read_to old (suc n) there active within =
      let w = read_to old n there active (omega (arith, within)) in
      let active_then = still_active old (ReadTo n) w active in
      joined old (ReadTo n) (ReadTo (suc n)) w
      (read_next w.new n (w.new.read p n) there active_then (omega (arith, within)) w.holds refl)

  -- ---- the stores, once all is read

  abbrev writes : ℕ
  writes = length (packet job p).writes

  record StoredTo (n : ℕ) (state : State) : Type 0 where
    pub read : AllRead job state p
    pub stored : (i : ℕ) → i < n → IsTrue (state.stored p i)

  store_next : (old : State) (n : ℕ) (t : Bool)
      → IsPacket job p → IsActive old → n < writes → StoredTo n old → old.stored p n ≡ t → Onward old (StoredTo (suc n))
  store_next old n false there active within was e =
      let new : State = record old {
        stored = put2 old.stored p n true;
        lane = put2 old.lane p (slice_index (packet job p).writes n) (dirty (slice_index (bytes_stored job old p) n));
      } in
      one old (Store p n) new (StoredTo (suc n)) refl (there, active, was.read, within, e, refl) (record {
        read = was.read;
        stored = λ i l. elim (cases_eq i n) [
          | inl d ↦ put2_same old.stored p n true p i refl d
          | inr d ↦ put2_other old.stored p n true p i (λ _ g. d g) ∙ was.stored i (omega (arith, l, d))
        ];
      })
  store_next old n true there active within was e = nothing old (StoredTo (suc n)) (record {
    read = was.read;
    stored = λ i l. elim (cases_eq i n) [
      | inl d ↦ ap (old.stored p) d ∙ e
      | inr d ↦ was.stored i (omega (arith, l, d))
    ];
  })

  store_to : (old : State) (n : ℕ) → IsPacket job p → IsActive old → AllRead job old p → n ≤ writes → Onward old (StoredTo n)
  store_to old zero there active read within =
      nothing old (StoredTo zero) (record { read = read; stored = λ i l. absurd (omega (arith, l)) })
  store_to old (suc n) there active read within =
      let w = store_to old n there active read (omega (arith, within)) in
      let active_then = still_active old (StoredTo n) w active in
      joined old (StoredTo n) (StoredTo (suc n)) w
      (store_next w.new n (w.new.stored p n) there active_then (omega (arith, within)) w.holds refl)

  worked : (old : State) → IsPacket job p → IsActive old → Onward old (StoredTo writes)
  worked old there active =
      let w = read_to old reads there active (omega arith) in
      joined old (ReadTo reads) (StoredTo writes) w
      (store_to w.new writes there (still_active old (ReadTo reads) w active) w.holds (omega arith))

  -- ---- the pushes

  own_lanes : (events : List Event) → Each is_lane_push events → All (Readies p) events
  own_lanes [] each = All-nil (Readies p)
  own_lanes (PushLane l b ∷ events) (e, each) = All-cons (Readies p) (PushLane l b) events tt (own_lanes events each)
  own_lanes (event ∷ events) (e, each) = absurd (true≢false (sym e))

  own_agents : (events : List Event) → Each is_agent_push events → All (Readies p) events
  own_agents [] each = All-nil (Readies p)
  own_agents (PushAgent a b ∷ events) (e, each) = All-cons (Readies p) (PushAgent a b) events tt (own_agents events each)
  own_agents (event ∷ events) (e, each) = absurd (true≢false (sym e))

  abbrev CanFinish : State → Type 0
  CanFinish state = Step job state (Finish p) (completed job state p)

  pushed : (old new : State) → Happens job old (Coarse.Complete p) new → Onward old CanFinish
  pushed old new (last, (mid, a, b), (end, (there, active, read, stored, released, is), same)) =
      let fence = (packet job p).release in
      let of_queue = packets_of job (λ l. (packet job l).queue == (packet job p).queue) in
      let lanes = lane_pushes job old (only_if (reaches fence scope.Agent) of_queue) in
      let agents = agent_pushes job mid (only_if (reaches fence scope.System) (agent_of job p ∷ [])) in
      record {
        events = lanes ++ agents;
        new = last;
        steps = steps_append job old lanes mid agents last a b;
        own = All-append (Readies p) lanes agents
            (own_lanes lanes (each_lane_push job old _)) (own_agents agents (each_agent_push job mid _));
        holds = (there, active, read, stored, released, refl);
      }

  readied : (events : List Event) (old : State) → Valid job → Run job events old → IsPacket job p → IsActive old → Readied job old p
  readied events old valid run there active =
      let w = worked old there active in
      let run_then = steps_append job (start job) events old w.events w.new run w.steps in
      let active_then = still_active old (StoredTo writes) w active in
      let (end, happens) =
      complete_possible job (events ++ w.events) w.new p valid run_then there active_then w.holds.read w.holds.stored in
      let all = joined old (StoredTo writes) CanFinish w (pushed w.new end happens) in
      record {
        events = all.events;
        new = all.new;
        steps = all.steps;
        own = all.own;
        same = λ first last mid split steps.
            same_steps old first mid (all_first (Readies p) first last (subst (All (Readies p)) split all.own)) steps;
        finish = all.holds;
      }

-- ---- the laws

pub completion_reached : CompletionReached
completion_reached job events state p valid run there active = readied job p events state valid run there active

pub entry_readied : EntryReadied
entry_readied job events state new p valid run step =
    let entered = steps_append job (start job) events state (Enter p ∷ []) new run (new, step, refl) in
    readied job p (events ++ Enter p ∷ []) new valid entered step.0 (ap (λ s. s.phase p) step.3 ∙ put_same state.phase p Active p refl)
