-- What coarse events leave, and that a journal whose packets are complete ends with the rest.
use Rattle.std.proofs.Common.{◌≡◌, ℕ, ◌<◌, ◌⊎◌, inl, inr, IsTrue, IsSome, List, [], ◌∷◌, ◌++◌, length, map, flat_map, refl, sym, ◌∙◌, ap, subst, arith, Bool, true, false, Option, Some, slice_index}
use Rattle.std.proofs.lemmas.Bool.{cases_eq, true≢false}
use Rattle.hq_model.specs.Job.{Job, packet, IsPacket}
use Rattle.hq_model.specs.Order.{In}
use Rattle.hq_model.specs.Machine.{State, Phase, Copy, Event, Steps, NoWorkLeft, IsByte, is_dirty, clean, dirty, put2, lane_sees, start}
use Rattle.hq_model.specs.Machine.Phase.{Waiting, InQueue, Launched, Active, Complete}
use Rattle.hq_model.specs.Machine.Event.{Submit, Launch, Observe, Enter, Read, Store, PushLane, PushAgent}
use Rattle.hq_model.specs.Journal.{Happens, CoarseLaw, numbers, dirty_bytes, lane_pushes, agent_pushes}
use Rattle.hq_model.specs.Journal.Coarse.{Rest}
use Rattle.hq_model.specs.Theorems.{RestEnds}
use Rattle.hq_model.proofs.Places.{in_rest, in_filter, in_numbers}
use Rattle.hq_model.proofs.Sums.{put_same, put2_same, put2_other}
use Rattle.hq_model.proofs.Journals.{journal_led, happens_led, steps_append}
use Rattle.hq_model.proofs.End.{end_law}

-- ---- events of one kind, and one that stands among them

abbrev pub Each : (Event → Bool) → List Event → Type 0
Each test [] = Unit {0}
Each test (event ∷ events) = IsTrue (test event) × Each test events

abbrev pub Stands : Event → List Event → Type 0
Stands event [] = ⊥
Stands event (x ∷ xs) = (x ≡ event) ⊎ Stands event xs

each_append : (test : Event → Bool) (xs ys : List Event) → Each test xs → Each test ys → Each test (xs ++ ys)
each_append test [] ys h k = k
each_append test (x ∷ xs) ys (e, h) k = (e, each_append test xs ys h k)

each_map : (test : Event → Bool) (f : ℕ → Event) (bs : List ℕ) → ((b : ℕ) → IsTrue (test (f b))) → Each test (map f bs)
each_map test f [] h = tt
each_map test f (b ∷ bs) h = (h b, each_map test f bs h)

each_flat : (test : Event → Bool) (g : ℕ → List Event) (ls : List ℕ) → ((l : ℕ) → Each test (g l)) → Each test (flat_map g ls)
each_flat test g [] h = tt
each_flat test g (l ∷ ls) h = each_append test (g l) (flat_map g ls) (h l) (each_flat test g ls h)

stands_left : (event : Event) (xs ys : List Event) → Stands event xs → Stands event (xs ++ ys)
stands_left event [] ys h = absurd h
stands_left event (x ∷ xs) ys (inl e) = inl e
stands_left event (x ∷ xs) ys (inr h) = inr (stands_left event xs ys h)

stands_right : (event : Event) (xs ys : List Event) → Stands event ys → Stands event (xs ++ ys)
stands_right event [] ys h = h
stands_right event (x ∷ xs) ys h = inr (stands_right event xs ys h)

pub stands_map : (f : ℕ → Event) (bs : List ℕ) (b : ℕ) → In bs b → Stands (f b) (map f bs)
stands_map f [] b i = absurd (omega arith)
stands_map f (x ∷ bs) b i = elim (cases_eq x b) [
  | inl e ↦ inl (ap f e)
  | inr d ↦ inr (stands_map f bs b (in_rest x bs b d i))
]

pub stands_flat : (g : ℕ → List Event) (ls : List ℕ) (l : ℕ) (event : Event) → In ls l → Stands event (g l) → Stands event (flat_map g ls)
stands_flat g [] l event i h = absurd (omega arith)
stands_flat g (x ∷ ls) l event i h = elim (cases_eq x l) [
  | inl e ↦ stands_left event (g x) (flat_map g ls) (subst (λ y. Stands event (g y)) (sym e) h)
  | inr d ↦ stands_right event (g x) (flat_map g ls) (stands_flat g ls l event (in_rest x ls l d i) h)
]

abbrev is_read : Event → Bool
is_read (Read p i) = true
is_read _ = false

abbrev is_store : Event → Bool
is_store (Store p i) = true
is_store _ = false

abbrev pub is_lane_push : Event → Bool
is_lane_push (PushLane p b) = true
is_lane_push _ = false

abbrev pub is_agent_push : Event → Bool
is_agent_push (PushAgent a b) = true
is_agent_push _ = false

-- ---- reads and stores

-- What holds at the place that is set, and at those where it held, holds after.
set_or : {X : Type 0} (f g : ℕ → ℕ → X) (q j : ℕ) (x : X) (P : X → Type 0) → g ≡ put2 f q j x → P x → (p i : ℕ) (A : Type 0) → P (f p i) ⊎ (((p ≡ q) × (i ≡ j)) ⊎ A) → P (g p i) ⊎ A
set_or f g q j x P is holds p i A h = elim (cases_eq p q) [
  | inl e ↦ elim (cases_eq i j) [
    | inl k ↦ inl (subst P (sym (ap (λ m. m p i) is ∙ put2_same f q j x p i e k)) holds)
    | inr k ↦ other h (λ _ z. k z)
  ]
  | inr e ↦ other h (λ z _. e z)
]
  where
    other : P (f p i) ⊎ (((p ≡ q) × (i ≡ j)) ⊎ A) → (p ≡ q → i ≡ j → ⊥) → P (g p i) ⊎ A
    other (inl k) apart = inl (subst P (sym (ap (λ m. m p i) is ∙ put2_other f q j x p i apart)) k)
    other (inr (inl k)) apart = absurd (apart k.0 k.1)
    other (inr (inr r)) apart = inr r

read_or : (q j p i : ℕ) (P A : Type 0) → P ⊎ ((Read q j ≡ Read p i) ⊎ A) → P ⊎ (((p ≡ q) × (i ≡ j)) ⊎ A)
read_or q j p i P A (inl h) = inl h
read_or q j p i P A (inr (inl e)) = inr (inl (cc, cc))
read_or q j p i P A (inr (inr h)) = inr (inr h)

store_or : (q j p i : ℕ) (P A : Type 0) → P ⊎ ((Store q j ≡ Store p i) ⊎ A) → P ⊎ (((p ≡ q) × (i ≡ j)) ⊎ A)
store_or q j p i P A (inl h) = inl h
store_or q j p i P A (inr (inl e)) = inr (inl (cc, cc))
store_or q j p i P A (inr (inr h)) = inr (inr h)

reads_done : (job : Job) (old : State) (events : List Event) (new : State) → Each is_read events → Steps job old events new → (p i : ℕ) → IsSome (old.read p i) ⊎ Stands (Read p i) events → IsSome (new.read p i)
reads_done job old [] new each is p i (inl h) = subst (λ s. IsSome (s.read p i)) (sym is) h
reads_done job old [] new each is p i (inr h) = absurd h
reads_done job old (Read q j ∷ events) new (e, each) (mid, step, rest) p i h =
    reads_done job mid events new each rest p i
    (set_or old.read mid.read q j (Some (lane_sees job old q (slice_index (packet job q).reads j))) IsSome (ap (λ s. s.read) step.4) refl p i (Stands (Read p i) events)
    (read_or q j p i (IsSome (old.read p i)) (Stands (Read p i) events) h))
reads_done job old (event ∷ events) new (e, each) run p i h = absurd (true≢false (sym e))

stores_done : (job : Job) (old : State) (events : List Event) (new : State) → Each is_store events → Steps job old events new → (p i : ℕ) → IsTrue (old.stored p i) ⊎ Stands (Store p i) events → IsTrue (new.stored p i)
stores_done job old [] new each is p i (inl h) = subst (λ s. IsTrue (s.stored p i)) (sym is) h
stores_done job old [] new each is p i (inr h) = absurd h
stores_done job old (Store q j ∷ events) new (e, each) (mid, step, rest) p i h =
    stores_done job mid events new each rest p i
    (set_or old.stored mid.stored q j true IsTrue (ap (λ s. s.stored) step.5) refl p i (Stands (Store p i) events)
    (store_or q j p i (IsTrue (old.stored p i)) (Stands (Store p i) events) h))
stores_done job old (event ∷ events) new (e, each) run p i h = absurd (true≢false (sym e))

-- ---- pushes

-- A dirty copy was dirty before, and is another than the one that was pushed.
still_dirty : (f g : ℕ → ℕ → Option Copy) (q j v : ℕ) → g ≡ put2 f q j (clean v) → (p i : ℕ) → is_dirty (g p i) ≡ true → (is_dirty (f p i) ≡ true) × ((p ≡ q) × (i ≡ j) → ⊥)
still_dirty f g q j v is p i d = elim (cases_eq p q) [
  | inl e ↦ elim (cases_eq i j) [
    | inl k ↦ absurd (true≢false (sym d ∙ ap is_dirty (ap (λ m. m p i) is ∙ put2_same f q j (clean v) p i e k)))
    | inr k ↦ other (λ _ z. k z)
  ]
  | inr e ↦ other (λ z _. e z)
]
  where
    other : (p ≡ q → i ≡ j → ⊥) → (is_dirty (f p i) ≡ true) × ((p ≡ q) × (i ≡ j) → ⊥)
    other apart = (ap is_dirty (sym (ap (λ m. m p i) is ∙ put2_other f q j (clean v) p i apart)) ∙ d, λ z. apart z.0 z.1)

lane_not : (q j p i : ℕ) (A : Type 0) → ((p ≡ q) × (i ≡ j) → ⊥) → (A → ⊥) → (PushLane q j ≡ PushLane p i) ⊎ A → ⊥
lane_not q j p i A apart none (inl e) = apart (cc, cc)
lane_not q j p i A apart none (inr h) = none h

agent_not : (q j p i : ℕ) (A : Type 0) → ((p ≡ q) × (i ≡ j) → ⊥) → (A → ⊥) → (PushAgent q j ≡ PushAgent p i) ⊎ A → ⊥
agent_not q j p i A apart none (inl e) = apart (cc, cc)
agent_not q j p i A apart none (inr h) = none h

pub lanes_pushed : (job : Job) (old : State) (events : List Event) (new : State) → Each is_lane_push events → Steps job old events new → (p b : ℕ) → is_dirty (new.lane p b) ≡ true → (is_dirty (old.lane p b) ≡ true) × (Stands (PushLane p b) events → ⊥)
lanes_pushed job old [] new each is p b d = (ap (λ s. is_dirty (s.lane p b)) (sym is) ∙ d, λ h. h)
lanes_pushed job old (PushLane q c ∷ events) new (e, each) (mid, step, rest) p b d =
    let (later, none) = lanes_pushed job mid events new each rest p b d in
    let (v, there, within, held, is) = step in
    let (was, apart) = still_dirty old.lane mid.lane q c v (ap (λ s. s.lane) is) p b later in
    (was, lane_not q c p b (Stands (PushLane p b) events) apart none)
lanes_pushed job old (event ∷ events) new (e, each) run p b d = absurd (true≢false (sym e))

pub agents_pushed : (job : Job) (old : State) (events : List Event) (new : State) → Each is_agent_push events → Steps job old events new → (a b : ℕ) → is_dirty (new.agent a b) ≡ true → (is_dirty (old.agent a b) ≡ true) × (Stands (PushAgent a b) events → ⊥)
agents_pushed job old [] new each is a b d = (ap (λ s. is_dirty (s.agent a b)) (sym is) ∙ d, λ h. h)
agents_pushed job old (PushAgent q c ∷ events) new (e, each) (mid, step, rest) a b d =
    let (later, none) = agents_pushed job mid events new each rest a b d in
    let (v, there, within, held, is) = step in
    let (was, apart) = still_dirty old.agent mid.agent q c v (ap (λ s. s.agent) is) a b later in
    (was, agent_not q c a b (Stands (PushAgent a b) events) apart none)
agents_pushed job old (event ∷ events) new (e, each) run a b d = absurd (true≢false (sym e))

-- pushes change no phase, and those of agents no lane
lane_phases : (job : Job) (old : State) (events : List Event) (new : State) → Each is_lane_push events → Steps job old events new → new.phase ≡ old.phase
lane_phases job old [] new each is = ap (λ s. s.phase) is
lane_phases job old (PushLane q c ∷ events) new (e, each) (mid, step, rest) = lane_phases job mid events new each rest ∙ ap (λ s. s.phase) step.4
lane_phases job old (event ∷ events) new (e, each) run = absurd (true≢false (sym e))

pub agent_phases : (job : Job) (old : State) (events : List Event) (new : State) → Each is_agent_push events → Steps job old events new → (new.phase ≡ old.phase) × (new.lane ≡ old.lane)
agent_phases job old [] new each is = (ap (λ s. s.phase) is, ap (λ s. s.lane) is)
agent_phases job old (PushAgent q c ∷ events) new (e, each) (mid, step, rest) =
    let (phases, lanes) = agent_phases job mid events new each rest in
    (phases ∙ ap (λ s. s.phase) step.4, lanes ∙ ap (λ s. s.lane) step.4)
agent_phases job old (event ∷ events) new (e, each) run = absurd (true≢false (sym e))

pub each_lane_push : (job : Job) (old : State) (lanes : List ℕ) → Each is_lane_push (lane_pushes job old lanes)
each_lane_push job old lanes = each_flat is_lane_push (λ p. map (PushLane p) (dirty_bytes job (old.lane p))) lanes (λ p. each_map is_lane_push (PushLane p) (dirty_bytes job (old.lane p)) (λ b. refl))

pub each_agent_push : (job : Job) (old : State) (agents : List ℕ) → Each is_agent_push (agent_pushes job old agents)
each_agent_push job old agents = each_flat is_agent_push (λ a. map (PushAgent a) (dirty_bytes job (old.agent a))) agents (λ a. each_map is_agent_push (PushAgent a) (dirty_bytes job (old.agent a)) (λ b. refl))

pub dirty_stands : (job : Job) (copies : ℕ → Option Copy) (b : ℕ) → IsByte job b → is_dirty (copies b) ≡ true → In (dirty_bytes job copies) b
dirty_stands job copies b within d = in_filter (λ x. is_dirty (copies x)) (numbers (length job.memory)) b d (in_numbers (length job.memory) b within)

pub not_dirty : (t : Bool) → (t ≡ true → ⊥) → t ≡ false
not_dirty true h = absurd (h refl)
not_dirty false h = refl

-- ---- the law of coarse events

module _ (job : Job) (old new : State) where
  rest_phases : Happens job old Rest new → new.phase ≡ old.phase
  rest_phases (mid, lanes, agents) =
      (agent_phases job mid (agent_pushes job mid (numbers job.agents)) new (each_agent_push job mid (numbers job.agents)) agents).0
      ∙ lane_phases job old (lane_pushes job old (numbers (length job.packets))) mid (each_lane_push job old (numbers (length job.packets))) lanes

  rest_lanes : Happens job old Rest new → (p b : ℕ) → IsPacket job p → IsByte job b → is_dirty (new.lane p b) ≡ false
  rest_lanes (mid, lanes, agents) p b there within = not_dirty (is_dirty (new.lane p b)) (λ d.
      let same = (agent_phases job mid (agent_pushes job mid (numbers job.agents)) new (each_agent_push job mid (numbers job.agents)) agents).1 in
      let (was, none) = lanes_pushed job old (lane_pushes job old (numbers (length job.packets))) mid (each_lane_push job old (numbers (length job.packets))) lanes p b (ap (λ f. is_dirty (f p b)) (sym same) ∙ d) in
      none (stands_flat (λ l. map (PushLane l) (dirty_bytes job (old.lane l))) (numbers (length job.packets)) p (PushLane p b) (in_numbers (length job.packets) p there)
      (stands_map (PushLane p) (dirty_bytes job (old.lane p)) b (dirty_stands job (old.lane p) b within was))))

  rest_agents : Happens job old Rest new → (a b : ℕ) → a < job.agents → IsByte job b → is_dirty (new.agent a b) ≡ false
  rest_agents (mid, lanes, agents) a b there within = not_dirty (is_dirty (new.agent a b)) (λ d.
      let (was, none) = agents_pushed job mid (agent_pushes job mid (numbers job.agents)) new (each_agent_push job mid (numbers job.agents)) agents a b d in
      none (stands_flat (λ l. map (PushAgent l) (dirty_bytes job (mid.agent l))) (numbers job.agents) a (PushAgent a b) (in_numbers job.agents a there)
      (stands_map (PushAgent a) (dirty_bytes job (mid.agent a)) b (dirty_stands job (mid.agent a) b within was))))

pub coarse_law : CoarseLaw
coarse_law job old new = record {
  fetch = λ p h i l.
      reads_done job old (map (Read p) (numbers (length (packet job p).reads))) new (each_map is_read (Read p) (numbers (length (packet job p).reads)) (λ i. refl)) h.1 p i
      (inr (stands_map (Read p) (numbers (length (packet job p).reads)) i (in_numbers (length (packet job p).reads) i l)));
  deliver = λ p h i l.
      stores_done job old (map (Store p) (numbers (length (packet job p).writes))) new (each_map is_store (Store p) (numbers (length (packet job p).writes)) (λ i. refl)) h.1 p i
      (inr (stands_map (Store p) (numbers (length (packet job p).writes)) i (in_numbers (length (packet job p).writes) i l)));
  complete = λ p (mid, pushes, (last, step, is)). ap (λ s. s.phase p) is ∙ ap (λ s. s.phase p) step.5 ∙ put_same mid.phase p Complete p refl;
  rest_phases = rest_phases job old new;
  rest_lanes = rest_lanes job old new;
  rest_agents = rest_agents job old new;
}

-- ---- the end

other_phase : (phase : Phase) → phase ≡ Complete → (phase ≡ Waiting → ⊥) × (phase ≡ InQueue → ⊥) × (phase ≡ Launched → ⊥) × (phase ≡ Active → ⊥)
other_phase phase e = (λ f. grind arith, λ f. grind arith, λ f. grind arith, λ f. grind arith)

dirty_is : (copy : Option Copy) (v : ℕ) → copy ≡ dirty v → is_dirty copy ≡ false → ⊥
dirty_is copy v e f = true≢false (sym (ap is_dirty e) ∙ f)

no_work : (job : Job) (state : State) → ((p : ℕ) → IsPacket job p → state.phase p ≡ Complete) → ((p b : ℕ) → IsPacket job p → IsByte job b → is_dirty (state.lane p b) ≡ false) → ((a b : ℕ) → a < job.agents → IsByte job b → is_dirty (state.agent a b) ≡ false)
    → NoWorkLeft job state
no_work job state done lanes agents Submit new w (p, may, is) = (other_phase (state.phase p) (done p may.is_packet)).0 may.waits
no_work job state done lanes agents (Launch q) new w (p, may, is) = (other_phase (state.phase p) (done p may.is_packet)).1 may.waits
no_work job state done lanes agents (Observe p slot) new w step = (other_phase (state.phase p) (done p step.1.is_packet)).2 step.3
no_work job state done lanes agents (Enter p) new w step = (other_phase (state.phase p) (done p step.0)).2 step.1
no_work job state done lanes agents (Read p i) new w step = (other_phase (state.phase p) (done p step.0)).3 step.1
no_work job state done lanes agents (Store p i) new w step = (other_phase (state.phase p) (done p step.0)).3 step.1
no_work job state done lanes agents (Event.Finish p) new w step = (other_phase (state.phase p) (done p step.0)).3 step.1
no_work job state done lanes agents (PushLane p b) new w (v, there, within, held, is) = dirty_is (state.lane p b) v held (lanes p b there within)
no_work job state done lanes agents (PushAgent a b) new w (v, there, within, held, is) = dirty_is (state.agent a b) v held (agents a b there within)
no_work job state done lanes agents event new w step = absurd (true≢false (sym w))

pub rest_ends : RestEnds
rest_ends job list journal old new valid ordered extends run done rest =
    let (events, to_old) = journal_led job (start job) journal old run in
    let (last, to_new) = happens_led job old Rest new rest in
    end_law job list (events ++ last) new valid ordered extends (steps_append job (start job) events old last new to_old to_new)
    (no_work job new (λ p there. ap (λ f. f p) (rest_phases job old new rest) ∙ done p there) (rest_lanes job old new rest) (rest_agents job old new rest))
