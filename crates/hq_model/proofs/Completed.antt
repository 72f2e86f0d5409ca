-- From any state of a run: a launched packet whose wait is over, or for signals that are 0, can be completed.
use Rattle.std.proofs.Common.{◌≡◌, ℕ, zero, suc, ◌<◌, ◌≢◌, ◌⊎◌, inl, inr, IsTrue, List, [], ◌∷◌, ◌++◌, length, refl, sym, ◌∙◌, ap, subst, arith, Bool, true, false, cond}
use Rattle.std.proofs.lemmas.Bool.{cases_eq}
use Rattle.std.proofs.lemmas.List.{append-nil}
use Rattle.hq_model.specs.Job.{Job, Kind, packet, IsPacket, Dependency, Decrements, IsBarrier, completes_on}
use Rattle.hq_model.specs.Job.Kind.{Work, BarrierAnd, BarrierOr}
use Rattle.hq_model.specs.Machine.{State, Event, Run, WaitOver, start, put, put2, with_phase, acquired, completed}
use Rattle.hq_model.specs.Machine.Phase.{Launched, Active, Complete}
use Rattle.hq_model.specs.Machine.Event.{Observe, Enter, Finish}
use Rattle.hq_model.specs.Theorems.{Valid}
use Rattle.hq_model.proofs.Sums.{sum_to, sum_same, put_same, put_other, put2_same, put2_other}
use Rattle.hq_model.proofs.Kept.{KeptBy, count_at, one_at, completions, decrementers_are, signal_of, is_complete}
use Rattle.hq_model.proofs.Bound.{slot_there}
use Rattle.hq_model.proofs.Finds.{dependency_or_not}
use Rattle.hq_model.proofs.Journals.{steps_append}
use Rattle.hq_model.proofs.Readied.{completion_reached}

pub and≢work : (kind : Kind) → kind ≡ BarrierAnd → kind ≢ Work
and≢work kind e f = grind arith

pub or≢work : (kind : Kind) → kind ≡ BarrierOr → kind ≢ Work
or≢work kind e f = grind arith

pub and≢or : (kind : Kind) → kind ≡ BarrierAnd → kind ≢ BarrierOr
and≢or kind e f = grind arith

-- ---- signals

one_of_two : (b c : Bool) → (b ≡ true → c ≡ true) → ◌≡◌ {A = ℕ} (cond b (cond c 1 0) 0) (cond b 1 0)
one_of_two true c h = ap (λ x. cond x 1 0) (h refl)
one_of_two false c h = refl

-- A signal that is waited on is 0 once its decrementers are complete.
pub signal_over : (job : Job) (state : State) → Valid job → KeptBy job state → (x slot s : ℕ) → Dependency job x slot s
    → ((d : ℕ) → Decrements job d s → state.phase d ≡ Complete) → state.signal s ≡ 0
signal_over job state valid k x slot s w all = omega (arith, k.signals s, every, decrementers_are job s, valid.balanced.exact x slot s w)
  where
    every : completions job state.phase s ≡ sum_to (length job.packets) (one_at job s)
    every = sum_same (length job.packets) (count_at job state.phase s) (one_at job s) (λ d l. one_of_two (completes_on s (packet job d)) (is_complete (state.phase d)) (λ h.
        ap is_complete (all d (record { is_packet = l; signal = signal_of s (packet job d).done h }))))

-- ---- one packet

module _ (job : Job) (valid : Valid job) (before : List Event) (old : State) (ran : Run job before old) (x : ℕ) (there : IsPacket job x) (launched : old.phase x ≡ Launched) where
  -- where x's observations lead
  pub record Looked (Holds : State → Type 0) : Type 0 where
    pub events : List Event
    pub state : State
    pub run : Run job events state
    pub phases : state.phase ≡ old.phase
    pub signals : state.signal ≡ old.signal
    pub holds : Holds state

  abbrev pub Over : Type 0
  Over = (slot s : ℕ) → Dependency job x slot s → old.signal s ≡ 0

  -- the slot is observed, and each that was
  record Adds (first : State) (slot : ℕ) (then : State) : Type 0 where
    pub seen : IsTrue (then.observed x slot)
    pub still : (k : ℕ) → IsTrue (first.observed x k) → IsTrue (then.observed x k)

  look : (Holds : State → Type 0) (v : Looked Holds) (slot s : ℕ) → IsBarrier job x → Dependency job x slot s → old.signal s ≡ 0 → (t : Bool) → v.state.observed x slot ≡ t → Looked (Adds v.state slot)
  look Holds v slot s barrier dependency empty true e =
      record { events = v.events; state = v.state; run = v.run; phases = v.phases; signals = v.signals; holds = record { seen = e; still = λ k h. h } }
  look Holds v slot s barrier dependency empty false e =
      let new : State = record v.state { observed = put2 v.state.observed x slot true } in
      let at : v.state.phase x ≡ Launched = ap (λ f. f x) v.phases ∙ launched in
      let is_zero : v.state.signal s ≡ 0 = ap (λ f. f s) v.signals ∙ empty in
      record {
        events = v.events ++ Observe x slot ∷ [];
        state = new;
        run = steps_append job (start job) v.events v.state (Observe x slot ∷ []) new v.run (new, (s, dependency, barrier, at, is_zero, e, refl), refl);
        phases = v.phases;
        signals = v.signals;
        holds = record {
          seen = put2_same v.state.observed x slot true x slot refl refl;
          still = λ k h. elim (cases_eq k slot) [
            | inl is ↦ put2_same v.state.observed x slot true x k refl is
            | inr d ↦ put2_other v.state.observed x slot true x k (λ _ g. d g) ∙ h
          ];
        };
      }

  -- the slots below n are observed
  abbrev SeenTo : ℕ → State → Type 0
  SeenTo n state = (slot s : ℕ) → slot < n → Dependency job x slot s → IsTrue (state.observed x slot)

  look_next : (n : ℕ) → IsBarrier job x → Over → Looked (SeenTo n) → ((s : ℕ) × Dependency job x n s) ⊎ ((s : ℕ) → Dependency job x n s → ⊥) → Looked (SeenTo (suc n))
  look_next n barrier over v (inr none) = record {
    events = v.events;
    state = v.state;
    run = v.run;
    phases = v.phases;
    signals = v.signals;
    holds = λ slot s l f. elim (cases_eq slot n) [
      | inl is ↦ absurd (none s (subst (λ k. Dependency job x k s) is f))
      | inr d ↦ v.holds slot s (omega (arith, l, d)) f
    ];
  }
  look_next n barrier over v (inl (s, dependency)) =
      let u = look (SeenTo n) v n s barrier dependency (over n s dependency) (v.state.observed x n) refl in
      record {
        events = u.events;
        state = u.state;
        run = u.run;
        phases = u.phases;
        signals = u.signals;
        holds = λ slot t l f. elim (cases_eq slot n) [
          | inl is ↦ subst (λ k. IsTrue (u.state.observed x k)) (sym is) u.holds.seen
          | inr d ↦ u.holds.still slot (v.holds slot t (omega (arith, l, d)) f)
        ];
      }

  look_to : (n : ℕ) → IsBarrier job x → Over → Looked (SeenTo n)
  look_to zero barrier over =
      record { events = before; state = old; run = ran; phases = refl; signals = refl; holds = λ slot s l. absurd (omega (arith, l)) }
  look_to (suc n) barrier over = look_next n barrier over (look_to n barrier over) (dependency_or_not job x n there)

  -- its wait is over there
  abbrev pub Ready : Type 0
  Ready = Looked (λ state. WaitOver job state x)

  pub wait_none : (packet job x).kind ≡ Work → Ready
  wait_none is = record {
    events = before;
    state = old;
    run = ran;
    phases = refl;
    signals = refl;
    holds = record { each = λ k. absurd (and≢work (packet job x).kind k is); one = λ k. absurd (or≢work (packet job x).kind k is) };
  }

  pub wait_each : (packet job x).kind ≡ BarrierAnd → Over → Ready
  wait_each is over =
      let v = look_to (length (packet job x).deps) (and≢work (packet job x).kind is) over in
      record {
        events = v.events;
        state = v.state;
        run = v.run;
        phases = v.phases;
        signals = v.signals;
        holds = record {
          each = λ _ slot s f. v.holds slot s (slot_there (packet job x).deps slot s f.signal).0 f;
          one = λ k. absurd (and≢or (packet job x).kind is k);
        };
      }

  pub wait_one : (packet job x).kind ≡ BarrierOr → (slot s : ℕ) → Dependency job x slot s → old.signal s ≡ 0 → Ready
  wait_one is slot s dependency empty =
      let barrier = or≢work (packet job x).kind is in
      let none : Looked (SeenTo 0) = record { events = before; state = old; run = ran; phases = refl; signals = refl; holds = λ slot s l. absurd (omega (arith, l)) } in
      let v = look (SeenTo 0) none slot s barrier dependency empty (old.observed x slot) refl in
      record {
        events = v.events;
        state = v.state;
        run = v.run;
        phases = v.phases;
        signals = v.signals;
        holds = record { each = λ k. absurd (and≢or (packet job x).kind k is); one = λ _. (slot, s, dependency, v.holds.seen) };
      }

  -- A run that goes on so, and completes x; the other packets are where they were.
  pub record Done : Type 0 where
    pub events : List Event
    pub state : State
    pub run : Run job events state
    pub over : state.phase x ≡ Complete
    pub others : (k : ℕ) → k ≢ x → state.phase k ≡ old.phase k

  pub complete : Ready → Done
  complete v =
      let begun : State = with_phase (acquired job v.state x) x Active in
      let at : v.state.phase x ≡ Launched = ap (λ f. f x) v.phases ∙ launched in
      let entry = v.events ++ Enter x ∷ [] in
      let run_in : Run job entry begun = steps_append job (start job) v.events v.state (Enter x ∷ []) begun v.run (begun, (there, at, v.holds, refl), refl) in
      let r = completion_reached job entry begun x valid run_in there (put_same v.state.phase x Active x refl) in
      let new : State = completed job r.new x in
      let phases : r.new.phase ≡ put v.state.phase x Active = (r.same r.events [] r.new (sym (append-nil r.events)) r.steps).phase in
      record {
        events = entry ++ (r.events ++ Finish x ∷ []);
        state = new;
        run = steps_append job (start job) entry begun (r.events ++ Finish x ∷ []) new run_in (steps_append job begun r.events r.new (Finish x ∷ []) new r.steps (new, r.finish, refl));
        over = put_same r.new.phase x Complete x refl;
        others = λ k d. put_other r.new.phase x Complete k d ∙ ap (λ f. f k) phases ∙ put_other v.state.phase x Active k d ∙ ap (λ f. f k) v.phases;
      }
