-- The run of a history: its entries' steps, and ahead of each completion what the packet has still to read, to store and to push.
use Rattle.std.proofs.Common.{◌≡◌, ℕ, ◌-◌, true, List, [], ◌∷◌, ◌++◌, All, filter, if◌then◌else◌}
use Rattle.std.proofs.Common.{refl, sym, ◌∙◌, ap, ap₂, subst, subst₂, append_assoc, append-nil}
use Rattle.std.proofs.lemmas.List.Elements.{All-head, All-tail, filter-append}
use Rattle.hq_model.specs.Job.{Job, packet, Dependency, completes_on}
use Rattle.hq_model.specs.Machine.{State, Event, Steps, Run, MayLaunch, WaitOver, is_launched, start}
use Rattle.hq_model.specs.Machine.{put, put2, with_phase, acquired, completed}
use Rattle.hq_model.specs.Machine.Phase.{Launched, Active, Complete}
use Rattle.hq_model.specs.Machine.Event.{Launch, Observe, Enter, Finish, Read, Store, PushLane, PushAgent}
use Rattle.hq_model.specs.Theorems.{Valid}
use Rattle.hq_model.specs.Readied.{Readies, SameProgress}
use Rattle.hq_model.proofs.Journals.{steps_append}
use Rattle.hq_model.proofs.Readied.{completion_reached}
use Rattle.hq_board.specs.declared.entry.Entry.{Entry}
use Rattle.hq_board.specs.declared.entry.Entry.TheVariants.{DidLaunch, DidObserve, DidEnter, DidComplete, Looked}
use Rattle.hq_board.specs.History.{next, after, May, Sees}
use Rattle.hq_board.specs.Told.{is_told, step_of, Tells, Found, IsTold, HistoriesRun}

-- ---- lists

first_same : {X : Type 0} (x y : X) (xs ys : List X) → x ∷ xs ≡ y ∷ ys → x ≡ y
first_same x y xs ys e = cc

rest_same : {X : Type 0} (x y : X) (xs ys : List X) → x ∷ xs ≡ y ∷ ys → xs ≡ ys
rest_same x y xs ys e = cc

not_empty : {X : Type 0} (x : X) (xs ys : List X) → [] ≡ xs ++ x ∷ ys → ⊥
not_empty x [] ys e = cc
not_empty x (y ∷ xs) ys e = cc

-- A history knows nothing of them.
untold : (p : ℕ) (events : List Event) → All (Readies p) events → filter is_told events ≡ []
untold p [] own = refl
untold p (event ∷ events) own =
    more event (All-head (Readies p) event events own) (untold p events (All-tail (Readies p) event events own))
  where
    more : (e : Event) → Readies p e → filter is_told events ≡ [] → filter is_told (e ∷ events) ≡ []
    more (Read r i) h none = none
    more (Store r i) h none = none
    more (PushLane l b) h none = none
    more (PushAgent a b) h none = none
    more e h none = absurd h

-- ---- what is added to the run where an entry is added to the history

-- the signals once p is complete
abbrev counted_down : Job → ℕ → (ℕ → ℕ) → ℕ → ℕ
counted_down job p values s = if completes_on s (packet job p) then values s - 1 else values s

record Grows (job : Job) (known old : State) (x : Entry) : Type 0 where
  pub events : List Event
  pub new : State
  pub steps : Steps job old events new
  pub told : filter is_told events ≡ step_of job x
  pub same : SameProgress (next job known x) new
  pub look : (p slot value s : ℕ) → x ≡ Looked p slot value → Dependency job p slot s → old.signal s ≡ value

module _ (job : Job) (known old : State) (same : SameProgress known old) where
  may_launch : (q p : ℕ) → MayLaunch job known q p → MayLaunch job old q p
  may_launch q p may = record {
    is_packet = may.is_packet;
    queue = may.queue;
    waits = ap (λ f. f p) same.phase ∙ may.waits;
    next = λ e h. ap (λ f. is_launched (f e)) same.phase ∙ may.next e h;
    bit = λ b e h. ap (λ f. f e) same.phase ∙ may.bit b e h;
    barriers = λ e h k. ap (λ f. f e) same.phase ∙ may.barriers e h k;
  }

  wait_over : (p : ℕ) → WaitOver job known p → WaitOver job old p
  wait_over p over = record {
    each = λ kind slot s d. ap (λ f. f p slot) same.observed ∙ over.each kind slot s d;
    one = λ kind. let (slot, s, d, seen) = over.one kind in (slot, s, d, ap (λ f. f p slot) same.observed ∙ seen);
  }

  grows : (events : List Event) (x : Entry) → Valid job → Run job events old → May job known x → Sees job known x → Grows job known old x
  grows events (DidLaunch p) valid run may sees = record {
    events = Launch (packet job p).queue ∷ [];
    new = with_phase old p Launched;
    steps = (with_phase old p Launched, (p, may_launch (packet job p).queue p may, refl), refl);
    told = refl;
    same = record { phase = ap (λ f. put f p Launched) same.phase; observed = same.observed; signal = same.signal };
    look = λ r slot value s e d. absurd cc;
  }
  grows events (DidObserve p slot) valid run may sees =
      let new : State = record old { observed = put2 old.observed p slot true } in
      record {
        events = Observe p slot ∷ [];
        new = new;
        steps = (
          new,
          (
            may.signal,
            may.dependency,
            may.unobserved.barrier,
            ap (λ f. f p) same.phase ∙ may.unobserved.launched,
            ap (λ f. f may.signal) same.signal ∙ sees may.signal may.dependency,
            ap (λ f. f p slot) same.observed ∙ may.unobserved.fresh,
            refl,
          ),
          refl,
        );
        told = refl;
        same = record { phase = same.phase; observed = ap (λ f. put2 f p slot true) same.observed; signal = same.signal };
        look = λ r l value s e d. absurd cc;
      }
  grows events (DidEnter p) valid run (there, launched, over) sees = record {
    events = Enter p ∷ [];
    new = with_phase (acquired job old p) p Active;
    steps = (with_phase (acquired job old p) p Active, (there, ap (λ f. f p) same.phase ∙ launched, wait_over p over, refl), refl);
    told = refl;
    same = record { phase = ap (λ f. put f p Active) same.phase; observed = same.observed; signal = same.signal };
    look = λ r slot value s e d. absurd cc;
  }
  grows events (DidComplete p) valid run (there, active) sees =
      let r = completion_reached job events old p valid run there (ap (λ f. f p) same.phase ∙ active) in
      let kept = r.same r.events [] r.new (sym (append-nil r.events)) r.steps in
      record {
        events = r.events ++ Finish p ∷ [];
        new = completed job r.new p;
        steps = steps_append job old r.events r.new (Finish p ∷ []) (completed job r.new p) r.steps (completed job r.new p, r.finish, refl);
        told = filter-append is_told r.events (Finish p ∷ []) ∙ ap (λ list. list ++ Finish p ∷ []) (untold p r.events r.own);
        same = record {
          phase = ap (λ f. put f p Complete) (kept.phase ∙ same.phase);
          observed = kept.observed ∙ same.observed;
          signal = ap (counted_down job p) (kept.signal ∙ same.signal);
        };
        look = λ r slot value s e d. absurd cc;
      }
  grows events (Looked p slot value) valid run may (above, sees) = record {
    events = [];
    new = old;
    steps = refl;
    told = refl;
    same = same;
    look = λ r l v s e d. looked r l v s d (cc) (cc) (cc);
  }
    where
      looked : (r l v s : ℕ) → Dependency job r l s → p ≡ r → slot ≡ l → value ≡ v → old.signal s ≡ v
      looked r l v s d e f g = ap (λ h. h s) same.signal ∙ sees s (subst₂ (λ a b. Dependency job a b s) (sym e) (sym f) d) ∙ g

-- ---- the run

module _ (job : Job) (x : Entry) (m : List Entry) (w : IsTold job m) (g : Grows job (after job m) w.state x) where
  looks : (newer older : List Entry) (p slot value s : ℕ)
      → x ∷ m ≡ newer ++ Looked p slot value ∷ older → Dependency job p slot s → Found job (w.events ++ g.events) older s value
  looks [] older p slot value s split d = record {
    first = w.events;
    last = g.events;
    split = refl;
    state = w.state;
    tells = subst (λ list. Tells job list w.events w.state) (rest_same x (Looked p slot value) m older split) w.tells;
    signal = g.look p slot value s (first_same x (Looked p slot value) m older split) d;
  }
  looks (y ∷ newer) older p slot value s split d =
      let found = w.looks newer older p slot value s (rest_same x y m (newer ++ Looked p slot value ∷ older) split) d in
      record {
        first = found.first;
        last = found.last ++ g.events;
        split = ap (λ list. list ++ g.events) found.split ∙ append_assoc found.first found.last g.events;
        state = found.state;
        tells = found.tells;
        signal = found.signal;
      }

  grown : IsTold job (x ∷ m)
  grown = record {
    events = w.events ++ g.events;
    state = g.new;
    tells = record {
      run = steps_append job (start job) w.events w.state g.events g.new w.tells.run g.steps;
      steps = filter-append is_told w.events g.events ∙ ap₂ ◌++◌ w.tells.steps g.told;
    };
    same = g.same;
    looks = looks;
  }

pub histories_run : HistoriesRun
histories_run job [] valid legal right = record {
  events = [];
  state = start job;
  tells = record { run = refl; steps = refl };
  same = record { phase = refl; observed = refl; signal = refl };
  looks = λ newer older p slot value s split d. absurd (not_empty (Looked p slot value) newer older split);
}
histories_run job (x ∷ m) valid (may, legal) (sees, right) =
    let w = histories_run job m valid legal right in
    grown job x m w (grows job (after job m) w.state w.same w.events x valid w.tells.run may sees)
