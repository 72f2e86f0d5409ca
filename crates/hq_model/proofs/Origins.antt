-- Where the bytes of a run come from.
use Rattle.std.proofs.Common.{◌≡◌, ℕ, zero, suc, ◌<◌, inl, inr, IsTrue, IsSome, is_some, IfSome, List, [], ◌∷◌, ◌++◌, length, refl, sym, ◌∙◌, ap, subst, arith, Bool, true, false, cond, eqb, ◌&&◌, Option, Some, None, slice_index, unwrap_or}
use Rattle.std.proofs.lemmas.Bool.{cases_eq, true≢false}
use Rattle.hq_footprint.specs.Tasks.{result_of}
use Rattle.hq_model.specs.Job.{Job, packet, IsPacket, agent_of}
use Rattle.hq_packet.specs.Scopes.{reaches}
use Rattle.hq_packet.specs.declared.packet.Scope.TheVariants as scope
use Rattle.hq_model.specs.Order.{place}
use Rattle.hq_model.specs.Machine.{State, Phase, Copy, Event, Step, Steps, start, put, put2, listed, clean, dirty, value_or, agent_sees, lane_sees, is_dirty, without_clean, AllRead, bytes_stored, with_phase, acquired, completed}
use Rattle.hq_model.specs.Machine.Phase.{InQueue, Launched, Active}
use Rattle.hq_model.specs.Machine.Event.{Submit, Launch, Observe, Enter, Read, Store, PushLane, PushAgent, FillLane, FillAgent, DropLane, DropAgent}
use Rattle.hq_model.specs.Origins.{Origin, Origins, all_start, origin_or, agent_origin, lane_origin, moved, Traced, ComesFrom, OriginsHold, OriginsTell, RunsHaveOrigins}
use Rattle.hq_model.specs.Origins.Origin.{Start, StoredBy}
use Rattle.hq_model.specs.Theorems.{Valid}
use Rattle.hq_model.proofs.Sums.{put_same, put_other, put2_same, put2_other}
use Rattle.hq_model.proofs.Places.{in_of, place_once}
use Rattle.hq_model.proofs.Determined.{steps_determined}

-- ---- tables of what may be there, each with its origin

put2_again : (t : ℕ → ℕ → Origin) (k l m n : ℕ) → put2 t k l (t k l) m n ≡ t m n
put2_again t k l m n = elim (cases_eq m k) [
  | inl e ↦ elim (cases_eq n l) [
    | inl d ↦ put2_same t k l (t k l) m n e d ∙ ap (t k) (sym d) ∙ ap (λ x. t x n) (sym e)
    | inr d ↦ put2_other t k l (t k l) m n (λ _ g. d g)
  ]
  | inr d ↦ put2_other t k l (t k l) m n (λ g _. d g)
]

module _ {X : Type 0} (P : ℕ → ℕ → Origin → X → Type 0) where
  abbrev pub AreSo : (ℕ → ℕ → Option X) → (ℕ → ℕ → Origin) → Type 0
  AreSo f o = (k l : ℕ) → IfSome (f k l) (P k l (o k l))

  other_so : (f : ℕ → ℕ → Option X) (o : ℕ → ℕ → Origin) → AreSo f o → (k l : ℕ) (x : Option X) (y : Origin) (m n : ℕ) → (m ≡ k → n ≡ l → ⊥) → IfSome (put2 f k l x m n) (P m n (put2 o k l y m n))
  other_so f o h k l x y m n apart =
      subst (λ z. IfSome z (P m n (put2 o k l y m n))) (sym (put2_other f k l x m n apart))
      (subst (λ z. IfSome (f m n) (P m n z)) (sym (put2_other o k l y m n apart)) (h m n))

  put_so : (f : ℕ → ℕ → Option X) (o : ℕ → ℕ → Origin) → AreSo f o → (k l : ℕ) (x : X) (y : Origin) → P k l y x → AreSo (put2 f k l (Some x)) (put2 o k l y)
  put_so f o h k l x y new m n = elim (cases_eq m k) [
    | inl e ↦ elim (cases_eq n l) [
      | inl d ↦
          subst (λ z. IfSome z (P m n (put2 o k l y m n))) (sym (put2_same f k l (Some x) m n e d))
          (subst (λ z. P m n z x) (sym (put2_same o k l y m n e d)) (subst (λ z. P z n y x) (sym e) (subst (λ z. P k z y x) (sym d) new)))
      | inr d ↦ other_so f o h k l (Some x) y m n (λ _ g. d g)
    ]
    | inr d ↦ other_so f o h k l (Some x) y m n (λ g _. d g)
  ]

  -- another entry in a place, of the same origin
  again_so : (f : ℕ → ℕ → Option X) (o : ℕ → ℕ → Origin) → AreSo f o → (k l : ℕ) (x : X) → P k l (o k l) x → AreSo (put2 f k l (Some x)) o
  again_so f o h k l x new m n = subst (λ y. IfSome (put2 f k l (Some x) m n) (P m n y)) (put2_again o k l m n) (put_so f o h k l x (o k l) new m n)

  drop_so : (f : ℕ → ℕ → Option X) (o : ℕ → ℕ → Origin) → AreSo f o → (k l : ℕ) → AreSo (put2 f k l None) o
  drop_so f o h k l m n = without (eqb m k && eqb n l) (f m n) (h m n)
    where
      without : (t : Bool) (x : Option X) → IfSome x (P m n (o m n)) → IfSome (cond t None x) (P m n (o m n))
      without true x i = tt
      without false x i = i

-- an acquire fence lets copies go
fenced_so : (P : ℕ → ℕ → Origin → Copy → Type 0) (f : ℕ → ℕ → Option Copy) (o : ℕ → ℕ → Origin) (t : ℕ → Bool) → AreSo P f o → AreSo P (λ k l. cond (t k) (without_clean (f k l)) (f k l)) o
fenced_so P f o t h k l = left (t k) (is_dirty (f k l)) (f k l) (h k l)
  where
    left : (s d : Bool) (x : Option Copy) → IfSome x (P k l (o k l)) → IfSome (cond s (cond d x None) x) (P k l (o k l))
    left true true x i = i
    left true false x i = tt
    left false d x i = i

if_there : {X : Type 0} (x : Option X) (P Q : X → Type 0) → ((y : X) → P y → Q y) → IfSome x P → IfSome x Q
if_there None P Q h i = tt
if_there (Some y) P Q h i = h y i

-- what is seen has the origin that is seen
seen_so : (P : Origin → ℕ → Type 0) (copy : Option Copy) (own below : Origin) (byte : ℕ) → IfSome copy (λ c. P own c.value) → P below byte → P (origin_or copy own below) (value_or copy byte)
seen_so P None own below byte h l = l
seen_so P (Some copy) own below byte h l = h

-- ---- what stays of an origin

listed_same : (n : ℕ) (f g : ℕ → ℕ) → ((k : ℕ) → k < n → f k ≡ g k) → listed n f ≡ listed n g
listed_same zero f g h = refl
listed_same (suc n) f g h =
    ap (λ xs. xs ++ f n ∷ []) (listed_same n f g (λ k l. h k (omega arith))) ∙ ap (λ x. listed n g ++ x ∷ []) (h n (omega arith))

-- No entry that was read is another now, and no byte that was stored isn't any more.
record Later (old new : State) : Type 0 where
  read : (q j : ℕ) → IsSome (old.read q j) → new.read q j ≡ old.read q j
  stored : (q i : ℕ) → IsTrue (old.stored q i) → IsTrue (new.stored q i)

abbrev IsFrom : Job → State → ℕ → ℕ → Origin → Copy → Type 0
IsFrom job state k b o copy = ComesFrom job state b o copy.value

abbrev IsReadFrom : Job → State → ℕ → ℕ → Origin → ℕ → Type 0
IsReadFrom job state p i o byte = ComesFrom job state (slice_index (packet job p).reads i) o byte

module _ (job : Job) (old new : State) (later : Later old new) where
  still_from : (b : ℕ) (o : Origin) (byte : ℕ) → ComesFrom job old b o byte → ComesFrom job new b o byte
  still_from b Start byte h = h
  still_from b (StoredBy p) byte h = record {
    is_packet = h.is_packet;
    writes = h.writes;
    read = λ j l. subst IsSome (sym (later.read p j (h.read j l))) (h.read j l);
    stored = later.stored p (place (packet job p).writes b) h.stored;
    is =
        h.is
        ∙ ap (λ bytes. slice_index (result_of (packet job p).task (length (packet job p).writes) bytes) (place (packet job p).writes b))
        (sym (listed_same (length (packet job p).reads) (λ j. unwrap_or (new.read p j) 0) (λ j. unwrap_or (old.read p j) 0) (λ j l. ap (λ x. unwrap_or x 0) (later.read p j (h.read j l)))));
  }

  -- so what comes from somewhere as the step began comes from there still
  holds_still : (n : Origins) → ((b : ℕ) → ComesFrom job old b (n.memory b) (new.memory b)) → AreSo (IsFrom job old) new.agent n.agent → AreSo (IsFrom job old) new.lane n.lane
      → AreSo (IsReadFrom job old) new.read n.read → OriginsHold job new n
  holds_still n memory agents lanes reads = record {
    memory = λ b. still_from b (n.memory b) (new.memory b) (memory b);
    agents = λ a b. if_there (new.agent a b) (IsFrom job old a b (n.agent a b)) (IsFrom job new a b (n.agent a b)) (λ x. still_from b (n.agent a b) x.value) (agents a b);
    lanes = λ p b. if_there (new.lane p b) (IsFrom job old p b (n.lane p b)) (IsFrom job new p b (n.lane p b)) (λ x. still_from b (n.lane p b) x.value) (lanes p b);
    reads = λ p i. if_there (new.read p i) (IsReadFrom job old p i (n.read p i)) (IsReadFrom job new p i (n.read p i)) (λ x. still_from (slice_index (packet job p).reads i) (n.read p i) x) (reads p i);
  }

-- ---- one step

module _ (job : Job) (old : State) (o : Origins) (h : OriginsHold job old o) where
  -- what an agent sees, and what is seen through a lane
  agent_seen : (a b : ℕ) → ComesFrom job old b (agent_origin old o a b) (agent_sees old a b)
  agent_seen a b = seen_so (ComesFrom job old b) (old.agent a b) (o.agent a b) (o.memory b) (old.memory b) (h.agents a b) (h.memory b)

  lane_seen : (p b : ℕ) → ComesFrom job old b (lane_origin job old o p b) (lane_sees job old p b)
  lane_seen p b =
      seen_so (ComesFrom job old b) (old.lane p b) (o.lane p b) (agent_origin old o (agent_of job p) b) (agent_sees old (agent_of job p) b) (h.lanes p b) (agent_seen (agent_of job p) b)

  read_holds : (p i : ℕ) → old.read p i ≡ None → let b = slice_index (packet job p).reads i in OriginsHold job (record old { read = put2 old.read p i (Some (lane_sees job old p b)) }) (moved job old o (Read p i))
  read_holds p i fresh =
      let b = slice_index (packet job p).reads i in
      let v = lane_sees job old p b in
      let later : Later old (record old { read = put2 old.read p i (Some v) }) = record {
        read = λ q j some. put2_other old.read p i (Some v) q j (λ e d. true≢false (sym some ∙ ap is_some (ap (λ x. old.read x j) e ∙ ap (old.read p) d ∙ fresh)));
        stored = λ q j s. s;
      } in
      holds_still job old (record old { read = put2 old.read p i (Some v) }) later (moved job old o (Read p i)) h.memory h.agents h.lanes
      (put_so (IsReadFrom job old) old.read o.read h.reads p i v (lane_origin job old o p b) (lane_seen p b))

  store_holds : Valid job → (p i : ℕ) → IsPacket job p → AllRead job old p → i < length (packet job p).writes → OriginsHold job (record old {
    stored = put2 old.stored p i true;
    lane = put2 old.lane p (slice_index (packet job p).writes i) (dirty (slice_index (bytes_stored job old p) i));
  }) (moved job old o (Store p i))
  store_holds valid p i there read few =
      let writes = (packet job p).writes in
      let b = slice_index writes i in
      let v = slice_index (bytes_stored job old p) i in
      let mid : State = record old { stored = put2 old.stored p i true } in
      let new : State = record old { stored = put2 old.stored p i true; lane = put2 old.lane p b (dirty v) } in
      let at : place writes b ≡ i = place_once writes i 0 (valid.writes_once p) few in
      let k : OriginsHold job mid o = holds_still job old mid (record { read = λ q j s. refl; stored = λ q j s. still (eqb q p && eqb j i) (old.stored q j) s }) o h.memory h.agents h.lanes h.reads in
      holds_still job mid new (record { read = λ q j s. refl; stored = λ q j s. s }) (moved job old o (Store p i)) k.memory k.agents
      (put_so (IsFrom job mid) old.lane o.lane k.lanes p b (record { value = v; dirty = true }) (StoredBy p) (record {
        is_packet = there;
        writes = in_of writes i 0 b few refl;
        read = read;
        stored = put2_same old.stored p i true p (place writes b) refl at;
        is = ap (slice_index (bytes_stored job old p)) (sym at);
      })) k.reads
    where
      still : (t s : Bool) → IsTrue s → IsTrue (cond t true s)
      still true s h = refl
      still false s h = h

  -- from a dirty copy
  held_lane : (p b v : ℕ) → old.lane p b ≡ dirty v → ComesFrom job old b (o.lane p b) v
  held_lane p b v held = subst (λ x. IfSome x (λ copy. ComesFrom job old b (o.lane p b) copy.value)) held (h.lanes p b)

  held_agent : (a b v : ℕ) → old.agent a b ≡ dirty v → ComesFrom job old b (o.agent a b) v
  held_agent a b v held = subst (λ x. IfSome x (λ copy. ComesFrom job old b (o.agent a b) copy.value)) held (h.agents a b)

  -- no entry and no byte is read or stored
  moves_only : (new : State) → new.read ≡ old.read → new.stored ≡ old.stored → Later old new
  moves_only new read stored = record { read = λ q j s. ap (λ f. f q j) read; stored = λ q j s. subst (λ f. IsTrue (f q j)) (sym stored) s }

  -- no copy is another
  stays : (phase : ℕ → Phase) (observed : ℕ → ℕ → Bool) (signal : ℕ → ℕ) → OriginsHold job (record old { phase = phase; observed = observed; signal = signal }) o
  stays phase observed signal =
      let new : State = record old { phase = phase; observed = observed; signal = signal } in
      holds_still job old new (moves_only new refl refl) o h.memory h.agents h.lanes h.reads

  enter_holds : (p : ℕ) → OriginsHold job (with_phase (acquired job old p) p Active) o
  enter_holds p =
      let new : State = with_phase (acquired job old p) p Active in
      holds_still job old new (moves_only new refl refl) o h.memory
      (fenced_so (IsFrom job old) old.agent o.agent (λ a. reaches (packet job p).acquire scope.System && eqb a (agent_of job p)) h.agents)
      (fenced_so (IsFrom job old) old.lane o.lane (λ l. reaches (packet job p).acquire scope.Agent && eqb (packet job l).queue (packet job p).queue) h.lanes) h.reads

  push_lane_holds : (p b v : ℕ) → old.lane p b ≡ dirty v → OriginsHold job (record old { lane = put2 old.lane p b (clean v); agent = put2 old.agent (agent_of job p) b (dirty v) }) (moved job old o (PushLane p b))
  push_lane_holds p b v held =
      let new : State = record old { lane = put2 old.lane p b (clean v); agent = put2 old.agent (agent_of job p) b (dirty v) } in
      holds_still job old new (moves_only new refl refl) (moved job old o (PushLane p b)) h.memory
      (put_so (IsFrom job old) old.agent o.agent h.agents (agent_of job p) b (record { value = v; dirty = true }) (o.lane p b) (held_lane p b v held))
      (again_so (IsFrom job old) old.lane o.lane h.lanes p b (record { value = v; dirty = false }) (held_lane p b v held)) h.reads

  put_memory : (b v : ℕ) (x : Origin) → ComesFrom job old b x v → (c : ℕ) → ComesFrom job old c (put o.memory b x c) (put old.memory b v c)
  put_memory b v x from c = elim (cases_eq c b) [
    | inl e ↦
        subst (λ y. ComesFrom job old c y (put old.memory b v c)) (sym (put_same o.memory b x c e))
        (subst (ComesFrom job old c x) (sym (put_same old.memory b v c e)) (subst (λ d. ComesFrom job old d x v) (sym e) from))
    | inr d ↦
        subst (λ y. ComesFrom job old c y (put old.memory b v c)) (sym (put_other o.memory b x c d))
        (subst (ComesFrom job old c (o.memory c)) (sym (put_other old.memory b v c d)) (h.memory c))
  ]

  push_agent_holds : (a b v : ℕ) → old.agent a b ≡ dirty v → OriginsHold job (record old { agent = put2 old.agent a b (clean v); memory = put old.memory b v }) (moved job old o (PushAgent a b))
  push_agent_holds a b v held =
      let new : State = record old { agent = put2 old.agent a b (clean v); memory = put old.memory b v } in
      holds_still job old new (moves_only new refl refl) (moved job old o (PushAgent a b)) (put_memory b v (o.agent a b) (held_agent a b v held))
      (again_so (IsFrom job old) old.agent o.agent h.agents a b (record { value = v; dirty = false }) (held_agent a b v held)) h.lanes h.reads

  fill_lane_holds : (p b : ℕ) → OriginsHold job (record old { lane = put2 old.lane p b (clean (agent_sees old (agent_of job p) b)) }) (moved job old o (FillLane p b))
  fill_lane_holds p b =
      let v = agent_sees old (agent_of job p) b in
      let new : State = record old { lane = put2 old.lane p b (clean v) } in
      holds_still job old new (moves_only new refl refl) (moved job old o (FillLane p b)) h.memory h.agents
      (put_so (IsFrom job old) old.lane o.lane h.lanes p b (record { value = v; dirty = false }) (agent_origin old o (agent_of job p) b) (agent_seen (agent_of job p) b)) h.reads

  fill_agent_holds : (a b : ℕ) → OriginsHold job (record old { agent = put2 old.agent a b (clean (old.memory b)) }) (moved job old o (FillAgent a b))
  fill_agent_holds a b =
      let new : State = record old { agent = put2 old.agent a b (clean (old.memory b)) } in
      holds_still job old new (moves_only new refl refl) (moved job old o (FillAgent a b)) h.memory
      (put_so (IsFrom job old) old.agent o.agent h.agents a b (record { value = old.memory b; dirty = false }) (o.memory b) (h.memory b)) h.lanes h.reads

  drop_lane_holds : (p b : ℕ) → OriginsHold job (record old { lane = put2 old.lane p b None }) o
  drop_lane_holds p b =
      let new : State = record old { lane = put2 old.lane p b None } in
      holds_still job old new (moves_only new refl refl) o h.memory h.agents (drop_so (IsFrom job old) old.lane o.lane h.lanes p b) h.reads

  drop_agent_holds : (a b : ℕ) → OriginsHold job (record old { agent = put2 old.agent a b None }) o
  drop_agent_holds a b =
      let new : State = record old { agent = put2 old.agent a b None } in
      holds_still job old new (moves_only new refl refl) o h.memory (drop_so (IsFrom job old) old.agent o.agent h.agents a b) h.lanes h.reads

step_holds : (job : Job) (old : State) (o : Origins) (event : Event) (new : State) → Valid job → OriginsHold job old o → Step job old event new → OriginsHold job new (moved job old o event)
step_holds job old o Submit new valid h (p, may, is) = subst (λ s. OriginsHold job s o) (sym is) (stays job old o h (put old.phase p InQueue) old.observed old.signal)
step_holds job old o (Launch q) new valid h (p, may, is) = subst (λ s. OriginsHold job s o) (sym is) (stays job old o h (put old.phase p Launched) old.observed old.signal)
step_holds job old o (Observe p slot) new valid h step = subst (λ s. OriginsHold job s o) (sym step.6) (stays job old o h old.phase (put2 old.observed p slot true) old.signal)
step_holds job old o (Enter p) new valid h (there, launched, over, is) = subst (λ s. OriginsHold job s o) (sym is) (enter_holds job old o h p)
step_holds job old o (Event.Finish p) new valid h step = subst (λ s. OriginsHold job s o) (sym step.5) (stays job old o h (completed job old p).phase old.observed (completed job old p).signal)
step_holds job old o (Read p i) new valid h (there, active, few, fresh, is) = subst (λ s. OriginsHold job s (moved job old o (Read p i))) (sym is) (read_holds job old o h p i fresh)
step_holds job old o (Store p i) new valid h (there, active, read, few, fresh, is) = subst (λ s. OriginsHold job s (moved job old o (Store p i))) (sym is) (store_holds job old o h valid p i there read few)
step_holds job old o (PushLane p b) new valid h (v, there, within, held, is) = subst (λ s. OriginsHold job s (moved job old o (PushLane p b))) (sym is) (push_lane_holds job old o h p b v held)
step_holds job old o (PushAgent a b) new valid h (v, there, within, held, is) = subst (λ s. OriginsHold job s (moved job old o (PushAgent a b))) (sym is) (push_agent_holds job old o h a b v held)
step_holds job old o (FillLane p b) new valid h (there, within, none, is) = subst (λ s. OriginsHold job s (moved job old o (FillLane p b))) (sym is) (fill_lane_holds job old o h p b)
step_holds job old o (FillAgent a b) new valid h (there, within, none, is) = subst (λ s. OriginsHold job s (moved job old o (FillAgent a b))) (sym is) (fill_agent_holds job old o h a b)
step_holds job old o (DropLane p b) new valid h (v, there, within, held, is) = subst (λ s. OriginsHold job s o) (sym is) (drop_lane_holds job old o h p b)
step_holds job old o (DropAgent a b) new valid h (v, there, within, held, is) = subst (λ s. OriginsHold job s o) (sym is) (drop_agent_holds job old o h a b)

-- ---- runs

traced_holds : (job : Job) (old : State) (o : Origins) (events : List Event) (new : State) (n : Origins) → Valid job → OriginsHold job old o → Traced job old o events new n → OriginsHold job new n
traced_holds job old o [] new n valid h (is, same) = subst (λ s. OriginsHold job s n) (sym is) (subst (OriginsHold job old) (sym same) h)
traced_holds job old o (event ∷ events) new n valid h (mid, step, rest) = traced_holds job mid (moved job old o event) events new n valid (step_holds job old o event mid valid h step) rest

start_holds : (job : Job) → OriginsHold job (start job) all_start
start_holds job = record { memory = λ b. refl; agents = λ a b. tt; lanes = λ p b. tt; reads = λ p i. tt }

pub origins_tell : OriginsTell
origins_tell job events state o valid traced = traced_holds job (start job) all_start events state o valid (start_holds job) traced

traced_of : (job : Job) (old : State) (o : Origins) (events : List Event) (new : State) → Steps job old events new → (n : Origins) × Traced job old o events new n
traced_of job old o [] new is = (o, (is, refl))
traced_of job old o (event ∷ events) new (mid, step, rest) =
    let (n, traced) = traced_of job mid (moved job old o event) events new rest in
    (n, (mid, step, traced))

steps_of : (job : Job) (old : State) (o : Origins) (events : List Event) (new : State) (n : Origins) → Traced job old o events new n → Steps job old events new
steps_of job old o [] new n traced = traced.0
steps_of job old o (event ∷ events) new n (mid, step, rest) = (mid, step, steps_of job mid (moved job old o event) events new n rest)

traced_once : (job : Job) (old : State) (o : Origins) (events : List Event) (new other : State) (n m : Origins) → Valid job → Traced job old o events new n → Traced job old o events other m → n ≡ m
traced_once job old o [] new other n m valid a b = a.1 ∙ sym b.1
traced_once job old o (event ∷ events) new other n m valid (mid, step, rest) (mid2, step2, rest2) =
    traced_once job mid (moved job old o event) events new other n m valid rest (subst (λ s. Traced job s (moved job old o event) events other m) (steps_determined job old event mid2 mid valid step2 step) rest2)

pub runs_have_origins : RunsHaveOrigins
runs_have_origins job events state valid = record {
  of_run = traced_of job (start job) all_start events state;
  is_run = λ o traced. steps_of job (start job) all_start events state o traced;
  once = λ o n a b. traced_once job (start job) all_start events state state o n valid a b;
}

-- ---- one more event

pub traced_more : (job : Job) (old : State) (o : Origins) (events : List Event) (mid : State) (m : Origins) (event : Event) (new : State) → Traced job old o events mid m → Step job mid event new → Traced job old o (events ++ event ∷ []) new (moved job mid m event)
traced_more job old o [] mid m event new (is, same) step =
    subst (λ s. Step job s event new → Traced job old o (event ∷ []) new (moved job s m event)) (sym is)
    (λ h. subst (λ y. Traced job old o (event ∷ []) new (moved job old y event)) (sym same) (new, h, (refl, refl))) step
traced_more job old o (e ∷ events) mid m event new (next, first, rest) step = (next, first, traced_more job next (moved job old o e) events mid m event new rest step)
