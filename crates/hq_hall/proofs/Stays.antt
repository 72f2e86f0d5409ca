-- What stays of a packet: an event that neither completes it nor stores for it leaves it active, and what it has read
-- and stored as it was.
use Rattle.std.proofs.Common.{◌≡◌, ℕ, ◌==◌, IsTrue, IsSome, is_some, List, [], ◌∷◌, length, map, refl, sym, ◌∙◌, ap, subst, arith, Bool, true, false, Option, Some, None, slice_index}
use Rattle.std.proofs.lemmas.Bool.{true≢false, eq-eqb, eqb-true}
use Rattle.hq_model.specs.Job.{Job, packet, agent_of}
use Rattle.hq_packet.specs.Scopes.{reaches}
use Rattle.hq_model.specs.Machine.{State, Phase, Event, Step, Steps, AllRead, put, lane_sees}
use Rattle.hq_model.specs.Machine.Phase.{Waiting, InQueue, Launched, Active}
use Rattle.hq_model.specs.Machine.Event.{Submit, Launch, Observe, Enter, Read, Store, PushLane, PushAgent, FillLane, FillAgent, DropLane, DropAgent}
use Rattle.hq_model.specs.Journal.{Coarse, Happens, Pushes, only_if, packets_of, numbers, lane_pushes, agent_pushes}
use Rattle.hq_model.specs.Journal.Coarse.{One, Fetch, Deliver, Complete, Rest}
use Rattle.hq_model.proofs.Sums.{put_other, put2_other}
use Rattle.hq_model.proofs.Rested.{Each, is_lane_push, is_agent_push, each_lane_push, each_agent_push}
use Rattle.hq_packet.specs.declared.packet.Scope.TheVariants as scope

-- What an event of another kind or of another packet leaves of packet p.
pub record Stays (old new : State) (p : ℕ) : Type 0 where
  pub active : old.phase p ≡ Active → new.phase p ≡ Active
  pub read : (i byte : ℕ) → old.read p i ≡ Some byte → new.read p i ≡ Some byte
  pub stored : (i : ℕ) → new.stored p i ≡ old.stored p i

-- Whether a step completes p or stores for it.
abbrev pub step_ends_or_stores : ℕ → Event → Bool
step_ends_or_stores p (Event.Finish q) = q == p
step_ends_or_stores p (Store q i) = q == p
step_ends_or_stores p _ = false

-- Whether a coarse event does.
abbrev pub ends_or_stores : ℕ → Coarse → Bool
ends_or_stores p (One event) = step_ends_or_stores p event
ends_or_stores p (Deliver q) = q == p
ends_or_stores p (Complete q) = q == p
ends_or_stores p _ = false

-- ---- one behind another

-- All stays where nothing changes.
pub stays_same : (old new : State) (p : ℕ) → new.phase ≡ old.phase → new.read ≡ old.read → new.stored ≡ old.stored
    → Stays old new p
stays_same old new p phase read stored = record {
  active = λ a. ap (λ f. f p) phase ∙ a;
  read = λ i byte e. ap (λ f. f p i) read ∙ e;
  stored = λ i. ap (λ f. f p i) stored;
}

-- What stays up to mid and from there stays.
pub stays_on : (old mid new : State) (p : ℕ) → Stays old mid p → Stays mid new p → Stays old new p
stays_on old mid new p first second = record {
  active = λ a. second.active (first.active a);
  read = λ i byte e. second.read i byte (first.read i byte e);
  stored = λ i. second.stored i ∙ first.stored i;
}

-- A packet that has read all has still read all.
pub stays_read : (job : Job) (old new : State) (p : ℕ) → Stays old new p → AllRead job old p → AllRead job new p
stays_read job old new p stays all i l = there (old.read p i) refl (all i l)
  where
    there : (o : Option ℕ) → old.read p i ≡ o → IsSome o → IsSome (new.read p i)
    there None e s = absurd (true≢false (sym s))
    there (Some byte) e s = subst IsSome (sym (stays.read i byte e)) refl

-- ---- steps

apart : (q p : ℕ) → (q == p) ≡ false → p ≡ q → ⊥
apart q p t e = true≢false (sym (eq-eqb q p (sym e)) ∙ t)

-- a step that moves the phase of q, which isn't an active p
stays_phase : (old new : State) (p q : ℕ) (phase : Phase) → new.phase ≡ put old.phase q phase
    → (p ≡ q → old.phase p ≡ Active → ⊥) → new.read ≡ old.read → new.stored ≡ old.stored → Stays old new p
stays_phase old new p q phase is other read stored = record {
  active = λ a. ap (λ f. f p) is ∙ put_other old.phase q phase p (λ e. other e a) ∙ a;
  read = λ i byte e. ap (λ f. f p i) read ∙ e;
  stored = λ i. ap (λ f. f p i) stored;
}

waiting≢active : (phase : Phase) → phase ≡ Waiting → phase ≡ Active → ⊥
waiting≢active phase e f = grind arith

queued≢active : (phase : Phase) → phase ≡ InQueue → phase ≡ Active → ⊥
queued≢active phase e f = grind arith

launched≢active : (phase : Phase) → phase ≡ Launched → phase ≡ Active → ⊥
launched≢active phase e f = grind arith

none≢some : (o : Option ℕ) (byte : ℕ) → o ≡ None → o ≡ Some byte → ⊥
none≢some o byte e f = true≢false (sym (ap is_some f) ∙ ap is_some e)

-- A step that neither completes p nor stores for it.
pub step_stays : (job : Job) (old new : State) (event : Event) (p : ℕ) → step_ends_or_stores p event ≡ false
    → Step job old event new → Stays old new p
step_stays job old new Submit p t (q, may, is) =
    stays_phase old new p q InQueue (ap (λ s. s.phase) is)
    (λ e a. waiting≢active (old.phase q) may.waits (ap old.phase (sym e) ∙ a))
    (ap (λ s. s.read) is) (ap (λ s. s.stored) is)
step_stays job old new (Launch k) p t (q, may, is) =
    stays_phase old new p q Launched (ap (λ s. s.phase) is)
    (λ e a. queued≢active (old.phase q) may.waits (ap old.phase (sym e) ∙ a))
    (ap (λ s. s.read) is) (ap (λ s. s.stored) is)
step_stays job old new (Observe q slot) p t step =
    stays_same old new p (ap (λ s. s.phase) step.6) (ap (λ s. s.read) step.6) (ap (λ s. s.stored) step.6)
step_stays job old new (Enter q) p t (there, launched, over, is) =
    stays_phase old new p q Active (ap (λ s. s.phase) is)
    (λ e a. launched≢active (old.phase q) launched (ap old.phase (sym e) ∙ a))
    (ap (λ s. s.read) is) (ap (λ s. s.stored) is)
step_stays job old new (Event.Finish q) p t step =
    stays_phase old new p q Phase.Complete (ap (λ s. s.phase) step.5) (λ e a. apart q p t e)
    (ap (λ s. s.read) step.5) (ap (λ s. s.stored) step.5)
step_stays job old new (Read q j) p t (there, active, within, none, is) = record {
  active = λ a. ap (λ s. s.phase p) is ∙ a;
  read = λ i byte e.
      ap (λ s. s.read p i) is
      ∙ put2_other old.read q j (Some (lane_sees job old q (slice_index (packet job q).reads j))) p i
      (λ same at. none≢some (old.read q j) byte none (sym (ap (λ x. old.read x i) same ∙ ap (old.read q) at) ∙ e))
      ∙ e;
  stored = λ i. ap (λ s. s.stored p i) is;
}
step_stays job old new (Store q j) p t step = record {
  active = λ a. ap (λ s. s.phase p) step.5 ∙ a;
  read = λ i byte e. ap (λ s. s.read p i) step.5 ∙ e;
  stored = λ i. ap (λ s. s.stored p i) step.5 ∙ put2_other old.stored q j true p i (λ same _. apart q p t same);
}
step_stays job old new (PushLane q b) p t step =
    stays_same old new p (ap (λ s. s.phase) step.4) (ap (λ s. s.read) step.4) (ap (λ s. s.stored) step.4)
step_stays job old new (PushAgent a b) p t step =
    stays_same old new p (ap (λ s. s.phase) step.4) (ap (λ s. s.read) step.4) (ap (λ s. s.stored) step.4)
step_stays job old new (FillLane q b) p t step =
    stays_same old new p (ap (λ s. s.phase) step.3) (ap (λ s. s.read) step.3) (ap (λ s. s.stored) step.3)
step_stays job old new (FillAgent a b) p t step =
    stays_same old new p (ap (λ s. s.phase) step.3) (ap (λ s. s.read) step.3) (ap (λ s. s.stored) step.3)
step_stays job old new (DropLane q b) p t step =
    stays_same old new p (ap (λ s. s.phase) step.4) (ap (λ s. s.read) step.4) (ap (λ s. s.stored) step.4)
step_stays job old new (DropAgent a b) p t step =
    stays_same old new p (ap (λ s. s.phase) step.4) (ap (λ s. s.read) step.4) (ap (λ s. s.stored) step.4)

-- Steps of a kind that neither completes p nor stores for it.
pub steps_stay : (job : Job) (p : ℕ) (test : Event → Bool)
    → ((event : Event) → test event ≡ true → step_ends_or_stores p event ≡ false)
    → (old : State) (events : List Event) (new : State) → Each test events → Steps job old events new → Stays old new p
steps_stay job p test leaves old [] new each is =
    stays_same old new p (ap (λ s. s.phase) is) (ap (λ s. s.read) is) (ap (λ s. s.stored) is)
steps_stay job p test leaves old (event ∷ events) new (e, each) (mid, step, rest) =
    stays_on old mid new p (step_stays job old mid event p (leaves event e) step)
    (steps_stay job p test leaves mid events new each rest)

-- Where the test passes each event made from a number, it passes those made from a list.
pub each_made : (test : Event → Bool) (f : ℕ → Event) (ks : List ℕ) → ((k : ℕ) → IsTrue (test (f k)))
    → Each test (map f ks)
each_made test f [] h = tt
each_made test f (k ∷ ks) h = (h k, each_made test f ks h)

-- Whether a step is a read.
abbrev pub is_read : Event → Bool
is_read (Read p i) = true
is_read _ = false

-- Reads neither complete nor store.
pub read_leaves : (p : ℕ) (event : Event) → is_read event ≡ true → step_ends_or_stores p event ≡ false
read_leaves p (Read q i) t = refl
read_leaves p event t = absurd (true≢false (sym t))

lane_push_leaves : (p : ℕ) (event : Event) → is_lane_push event ≡ true → step_ends_or_stores p event ≡ false
lane_push_leaves p (PushLane q b) t = refl
lane_push_leaves p event t = absurd (true≢false (sym t))

agent_push_leaves : (p : ℕ) (event : Event) → is_agent_push event ≡ true → step_ends_or_stores p event ≡ false
agent_push_leaves p (PushAgent q b) t = refl
agent_push_leaves p event t = absurd (true≢false (sym t))

abbrev is_store_of : ℕ → Event → Bool
is_store_of q (Store r i) = r == q
is_store_of q _ = false

store_leaves : (p q : ℕ) → (q == p) ≡ false → (event : Event) → is_store_of q event ≡ true
    → step_ends_or_stores p event ≡ false
store_leaves p q f (Store r i) t = subst (λ x. (x == p) ≡ false) (sym (eqb-true r q t)) f
store_leaves p q f event t = absurd (true≢false (sym t))

-- Pushes leave p as it was.
pub pushes_stay : (job : Job) (old new : State) (lanes agents : List ℕ) (p : ℕ) → Pushes job old lanes agents new
    → Stays old new p
pushes_stay job old new lanes agents p (mid, first, second) =
    let lane_list = lane_pushes job old lanes in
    let agent_list = agent_pushes job mid agents in
    stays_on old mid new p
    (steps_stay job p is_lane_push (lane_push_leaves p) old lane_list mid (each_lane_push job old lanes) first)
    (steps_stay job p is_agent_push (agent_push_leaves p) mid agent_list new (each_agent_push job mid agents) second)

-- ---- coarse events

-- Every event but those that complete p or store for it leaves p as it was.
pub happens_stays : (job : Job) (old new : State) (event : Coarse) (p : ℕ) → ends_or_stores p event ≡ false
    → Happens job old event new → Stays old new p
happens_stays job old new (One event) p t (mid, step, is) =
    subst (λ s. Stays old s p) (sym is) (step_stays job old mid event p t step)
happens_stays job old new (Fetch q) p t h =
    steps_stay job p is_read (read_leaves p) old (map (Read q) (numbers (length (packet job q).reads))) new
    (each_made is_read (Read q) (numbers (length (packet job q).reads)) (λ k. refl)) h.1
happens_stays job old new (Deliver q) p t h =
    let stores = numbers (length (packet job q).writes) in
    steps_stay job p (is_store_of q) (store_leaves p q t) old (map (Store q) stores) new
    (each_made (is_store_of q) (Store q) stores (λ k. eq-eqb q q refl)) h.1
happens_stays job old new (Complete q) p t (mid, pushes, (last, step, is)) =
    let fence = (packet job q).release in
    let neighbours = packets_of job (λ l. (packet job l).queue == (packet job q).queue) in
    let lanes = only_if (reaches fence scope.Agent) neighbours in
    let agents = only_if (reaches fence scope.System) (agent_of job q ∷ []) in
    stays_on old mid new p
    (pushes_stay job old mid lanes agents p pushes)
    (subst (λ s. Stays mid s p) (sym is) (step_stays job mid last (Event.Finish q) p t step))
happens_stays job old new Rest p t h = pushes_stay job old new (numbers (length job.packets)) (numbers job.agents) p h
