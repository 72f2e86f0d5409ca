-- From each state of a run work steps lead to where no work is left: a work step that can be taken is found where there is one, and
-- each takes from what is left to do.
use Rattle.std.proofs.Common.{◌≡◌, ℕ, zero, suc, ◌+◌, ◌<◌, ◌≤◌, ◌≢◌, ◌⊎◌, inl, inr, IsTrue, IsSome, List, [], ◌∷◌, ◌++◌, length, All, refl, sym, ◌∙◌, ap, arith, Bool, true, false, Option, Some, None, slice_index, slice_get}
use Rattle.std.proofs.lemmas.List.Elements.{All-nil, All-cons}
use Rattle.std.proofs.lemmas.Bool.{cases_eq, cases_lt, cases_Bool, true≢false}
use Rattle.hq_model.specs.Job.{Job, Kind, packet, IsPacket, Dependency, IsBarrier, Frees, agent_of}
use Rattle.hq_model.specs.Job.Kind.{Work, BarrierAnd, BarrierOr}
use Rattle.hq_model.specs.Order.{place, Ahead}
use Rattle.hq_model.specs.Machine.{State, Phase, Event, Step, Steps, Run, MaySubmit, MayLaunch, WaitOver, NoWorkLeft, IsByte, is_dirty, is_work, clean, dirty, put, put2, start, with_phase, acquired, completed, lane_sees, bytes_stored}
use Rattle.hq_model.specs.Machine.Phase.{Waiting, InQueue, Launched, Active, Complete}
use Rattle.hq_model.specs.Machine.Event.{Submit, Launch, Observe, Enter, Finish, Read, Store, PushLane, PushAgent, FillLane, FillAgent, DropLane, DropAgent}
use Rattle.hq_model.specs.Theorems.{Valid}
use Rattle.hq_model.specs.Finishing.{StandstillReached, StuckExact}
use Rattle.hq_model.proofs.Places.{place_of_packets}
use Rattle.hq_model.proofs.Finds.{Or, find, frees_or_not, dependency_or_not}
use Rattle.hq_model.proofs.Bound.{weight, slot_there, counted, left, step_takes}
use Rattle.hq_model.proofs.Kept.{some_same}
use Rattle.hq_model.proofs.Completed.{and≢work, or≢work, and≢or}
use Rattle.hq_model.proofs.Launching.{open_or_complete, may_launch, stopped}
use Rattle.hq_model.proofs.Stuck.{stuck_law}
use Rattle.hq_model.proofs.Journals.{steps_append}
use Rattle.hq_model.proofs.Finishing.{Pushable, pushable_steps, pushable_start, dirty_is, not_dirty, ended}

-- ---- what is decided

waits_or_not : (phase : Phase) → (phase ≡ Waiting) ⊎ (phase ≢ Waiting)
waits_or_not Waiting = inl refl
waits_or_not InQueue = inr (λ e. omega (arith, ap weight e))
waits_or_not Launched = inr (λ e. omega (arith, ap weight e))
waits_or_not Active = inr (λ e. omega (arith, ap weight e))
waits_or_not Complete = inr (λ e. omega (arith, ap weight e))

zero_or_not : (n : ℕ) → (n ≡ 0) ⊎ (n ≢ 0)
zero_or_not n = cases_eq n 0

module _ (job : Job) (valid : Valid job) (state : State) (pushable : Pushable job state) where
  -- a work step that can be taken
  pub record Enabled : Type 0 where
    pub event : Event
    pub new : State
    pub work : IsTrue (is_work event)
    pub step : Step job state event new

  -- ---- pushes

  abbrev LanesClean : Type 0
  LanesClean = (p : ℕ) → p < length job.packets → (b : ℕ) → b < length job.memory → is_dirty (state.lane p b) ≡ false

  abbrev AgentsClean : Type 0
  AgentsClean = (a : ℕ) → a < job.agents → (b : ℕ) → b < length job.memory → is_dirty (state.agent a b) ≡ false

  push_lane : (p b : ℕ) → IsPacket job p → IsByte job b → is_dirty (state.lane p b) ≡ true → Enabled
  push_lane p b there within e =
      let (v, is) = dirty_is (state.lane p b) e in
      record {
        event = PushLane p b;
        new = record state { lane = put2 state.lane p b (clean v); agent = put2 state.agent (agent_of job p) b (dirty v) };
        work = refl;
        step = (v, there, within, is, refl);
      }

  push_agent : (a b : ℕ) → a < job.agents → IsByte job b → is_dirty (state.agent a b) ≡ true → Enabled
  push_agent a b there within e =
      let (v, is) = dirty_is (state.agent a b) e in
      record {
        event = PushAgent a b;
        new = record state { agent = put2 state.agent a b (clean v); memory = put state.memory b v };
        work = refl;
        step = (v, there, within, is, refl);
      }

  some_lane : Enabled ⊎ LanesClean
  some_lane = elim (find (length job.packets) (λ p. Enabled) (λ p. (b : ℕ) → b < length job.memory → is_dirty (state.lane p b) ≡ false) one) [
    | inl f ↦ inl f.2
    | inr all ↦ inr all
  ]
    where
      one : (p : ℕ) → p < length job.packets → Enabled ⊎ ((b : ℕ) → b < length job.memory → is_dirty (state.lane p b) ≡ false)
      one p there = elim (find (length job.memory) (λ b. is_dirty (state.lane p b) ≡ true) (λ b. is_dirty (state.lane p b) ≡ false) (λ b _. cases_Bool (is_dirty (state.lane p b)))) [
        | inl f ↦ inl (push_lane p f.0 there f.1 f.2)
        | inr all ↦ inr all
      ]

  some_agent : Enabled ⊎ AgentsClean
  some_agent = elim (find job.agents (λ a. Enabled) (λ a. (b : ℕ) → b < length job.memory → is_dirty (state.agent a b) ≡ false) one) [
    | inl f ↦ inl f.2
    | inr all ↦ inr all
  ]
    where
      one : (a : ℕ) → a < job.agents → Enabled ⊎ ((b : ℕ) → b < length job.memory → is_dirty (state.agent a b) ≡ false)
      one a there = elim (find (length job.memory) (λ b. is_dirty (state.agent a b) ≡ true) (λ b. is_dirty (state.agent a b) ≡ false) (λ b _. cases_Bool (is_dirty (state.agent a b)))) [
        | inl f ↦ inl (push_agent a f.0 there f.1 f.2)
        | inr all ↦ inr all
      ]

  module _ (lanes : LanesClean) (agents : AgentsClean) where
    lane_clean : (p b : ℕ) → is_dirty (state.lane p b) ≡ false
    lane_clean p b = not_dirty (state.lane p b) (λ e. let (there, within) = pushable.lanes p b e in true≢false (sym e ∙ lanes p there b within))

    agent_clean : (a b : ℕ) → is_dirty (state.agent a b) ≡ false
    agent_clean a b = not_dirty (state.agent a b) (λ e. let (there, within) = pushable.agents a b e in true≢false (sym e ∙ agents a there b within))

    -- ---- one packet

    -- No work step is p's.
    record Still (p : ℕ) : Type 0 where
      pub submit : MaySubmit job state p → ⊥
      pub launch : (q : ℕ) → MayLaunch job state q p → ⊥
      pub observe : (slot s : ℕ) → Dependency job p slot s → state.phase p ≡ Launched → state.signal s ≡ 0 → state.observed p slot ≡ false → IsBarrier job p → ⊥
      pub enter : state.phase p ≡ Launched → WaitOver job state p → ⊥
      pub active : state.phase p ≡ Active → ⊥

    -- p is in one phase alone
    other : (p : ℕ) (phase : Phase) → state.phase p ≡ phase → (now : Phase) → weight now ≢ weight phase → state.phase p ≡ now → ⊥
    other p phase is now differ e = differ (ap weight (sym e ∙ is))

    module _ (p : ℕ) (there : IsPacket job p) where
      submitted : state.phase p ≡ Waiting → Or (MaySubmit job state p)
      submitted is = elim (cases_Bool job.rings) [
        | inr none ↦ inr (λ may. true≢false (sym may.rings ∙ none))
        | inl rings ↦ elim next [
          | inl (e, ahead, waits) ↦ inr (λ may. may.next e ahead waits)
          | inr first ↦ elim slot [
            | inl (e, frees, o) ↦ inr (λ may. o (may.slot e frees))
            | inr free ↦ inl (record { rings = rings; is_packet = there; waits = is; next = first; slot = free })
          ]
        ]
      ]
        where
          packet_ahead : (e : ℕ) → Ahead job.submissions e p → IsPacket job e
          packet_ahead e ahead = place_of_packets (IsPacket job) job.submissions e valid.submissions.packets (omega (arith, ahead, valid.submissions.all p there))

          next : ((e : ℕ) × Ahead job.submissions e p × (state.phase e ≡ Waiting)) ⊎ ((e : ℕ) → Ahead job.submissions e p → state.phase e ≢ Waiting)
          next = elim (find (length job.packets) (λ e. Ahead job.submissions e p × (state.phase e ≡ Waiting)) (λ e. Ahead job.submissions e p → state.phase e ≢ Waiting) one) [
            | inl f ↦ inl (f.0, f.2.0, f.2.1)
            | inr all ↦ inr (λ e ahead. all e (packet_ahead e ahead) ahead)
          ]
            where
              one : (e : ℕ) → e < length job.packets → (Ahead job.submissions e p × (state.phase e ≡ Waiting)) ⊎ (Ahead job.submissions e p → state.phase e ≢ Waiting)
              one e l = elim (cases_lt (place job.submissions e) (place job.submissions p)) [
                | inr behind ↦ inr (λ ahead. absurd (omega (arith, ahead, behind)))
                | inl ahead ↦ elim (waits_or_not (state.phase e)) [
                  | inl waits ↦ inl (ahead, waits)
                  | inr gone ↦ inr (λ _. gone)
                ]
              ]

          slot : ((e : ℕ) × Frees job e p × (state.phase e ≢ Complete)) ⊎ ((e : ℕ) → Frees job e p → state.phase e ≡ Complete)
          slot = elim (find (length job.packets) (λ e. Frees job e p × (state.phase e ≢ Complete)) (λ e. Frees job e p → state.phase e ≡ Complete) one) [
            | inl f ↦ inl (f.0, f.2.0, f.2.1)
            | inr all ↦ inr (λ e frees. all e (omega (arith, frees.earlier.ahead, there)) frees)
          ]
            where
              one : (e : ℕ) → e < length job.packets → (Frees job e p × (state.phase e ≢ Complete)) ⊎ (Frees job e p → state.phase e ≡ Complete)
              one e l = elim (open_or_complete (state.phase e)) [
                | inr c ↦ inr (λ _. c)
                | inl o ↦ elim (frees_or_not job e p there) [
                  | inl frees ↦ inl (frees, o)
                  | inr none ↦ inr (λ frees. absurd (none frees))
                ]
              ]

      -- a slot whose signal is at 0 and that isn't observed
      abbrev Unseen : ℕ → Type 0
      Unseen slot = (s : ℕ) × Dependency job p slot s × (state.signal s ≡ 0) × (state.observed p slot ≡ false)

      unseen : ((slot : ℕ) × Unseen slot) ⊎ ((slot : ℕ) → Unseen slot → ⊥)
      unseen = elim (find (length (packet job p).deps) Unseen (λ slot. Unseen slot → ⊥) one) [
        | inl f ↦ inl (f.0, f.2)
        | inr none ↦ inr (λ slot u. none slot (slot_there (packet job p).deps slot u.0 u.1.signal).0 u)
      ]
        where
          one : (slot : ℕ) → slot < length (packet job p).deps → Or (Unseen slot)
          one slot l = elim (dependency_or_not job p slot there) [
            | inr none ↦ inr (λ u. none u.0 u.1)
            | inl (s, w) ↦ elim (cases_Bool (state.observed p slot)) [
              | inl seen ↦ inr (λ u. true≢false (sym seen ∙ u.3))
              | inr new ↦ elim (zero_or_not (state.signal s)) [
                | inl empty ↦ inl (s, w, empty, new)
                | inr full ↦ inr (λ u. full (ap state.signal (one_signal s u.0 w u.1) ∙ u.2))
              ]
            ]
          ]
            where
              one_signal : (s t : ℕ) → Dependency job p slot s → Dependency job p slot t → s ≡ t
              one_signal s t w v = some_same (slice_get (packet job p).deps slot) t s v.signal w.signal

      -- every slot that isn't null is observed, or one isn't; one is, or none
      seen : (t : Bool) → ((slot : ℕ) × (s : ℕ) × Dependency job p slot s × (state.observed p slot ≡ t)) ⊎ ((slot s : ℕ) → Dependency job p slot s → state.observed p slot ≢ t)
      seen t = elim (find (length (packet job p).deps) (λ slot. (s : ℕ) × Dependency job p slot s × (state.observed p slot ≡ t)) (λ slot. (s : ℕ) → Dependency job p slot s → state.observed p slot ≢ t) one) [
        | inl f ↦ inl (f.0, f.2.0, f.2.1, f.2.2)
        | inr none ↦ inr (λ slot s w. none slot (slot_there (packet job p).deps slot s w.signal).0 s w)
      ]
        where
          same_or_not : (a b : Bool) → (a ≡ b) ⊎ (a ≢ b)
          same_or_not true true = inl refl
          same_or_not false false = inl refl
          same_or_not true false = inr true≢false
          same_or_not false true = inr (λ e. true≢false (sym e))

          one : (slot : ℕ) → slot < length (packet job p).deps → ((s : ℕ) × Dependency job p slot s × (state.observed p slot ≡ t)) ⊎ ((s : ℕ) → Dependency job p slot s → state.observed p slot ≢ t)
          one slot l = elim (dependency_or_not job p slot there) [
            | inr none ↦ inr (λ s w. absurd (none s w))
            | inl (s, w) ↦ elim (same_or_not (state.observed p slot) t) [
              | inl is ↦ inl (s, w, is)
              | inr not ↦ inr (λ _ _. not)
            ]
          ]

      waited : (kind : Kind) → (packet job p).kind ≡ kind → Or (WaitOver job state p)
      waited Work is = inl (record { each = λ k. absurd (and≢work (packet job p).kind k is); one = λ k. absurd (or≢work (packet job p).kind k is) })
      waited BarrierAnd is = elim (seen false) [
        | inl (slot, s, w, none) ↦ inr (λ over. true≢false (sym (over.each is slot s w) ∙ none))
        | inr all ↦ inl (record { each = λ _ slot s w. truly (state.observed p slot) (all slot s w); one = λ k. absurd (and≢or (packet job p).kind is k) })
      ]
        where
          truly : (b : Bool) → b ≢ false → b ≡ true
          truly true h = refl
          truly false h = absurd (h refl)
      waited BarrierOr is = elim (seen true) [
        | inl f ↦ inl (record { each = λ k. absurd (and≢or (packet job p).kind k is); one = λ _. f })
        | inr none ↦ inr (λ over. let (slot, s, w, is_seen) = over.one is in none slot s w is_seen)
      ]

      act : state.phase p ≡ Active → Enabled
      act is = elim (find (length (packet job p).reads) (λ i. state.read p i ≡ None) (λ i. IsSome (state.read p i)) (λ i _. read_or_not (state.read p i))) [
        | inl (i, l, none) ↦ record {
          event = Read p i;
          new = record state { read = put2 state.read p i (Some (lane_sees job state p (slice_index (packet job p).reads i))) };
          work = refl;
          step = (there, is, l, none, refl);
        }
        | inr read ↦ elim (find (length (packet job p).writes) (λ i. state.stored p i ≡ false) (λ i. IsTrue (state.stored p i)) (λ i _. stored_or_not (state.stored p i))) [
          | inl (i, l, none) ↦ record {
            event = Store p i;
            new = record state { stored = put2 state.stored p i true; lane = put2 state.lane p (slice_index (packet job p).writes i) (dirty (slice_index (bytes_stored job state p) i)) };
            work = refl;
            step = (there, is, read, l, none, refl);
          }
          | inr stored ↦ record {
            event = Finish p;
            new = completed job state p;
            work = refl;
            step = (there, is, read, stored, record { lanes = λ _ l b _ _. lane_clean l b; agent = λ _ b. agent_clean (agent_of job p) b }, refl);
          }
        ]
      ]
        where
          read_or_not : (o : Option ℕ) → (o ≡ None) ⊎ IsSome o
          read_or_not None = inl refl
          read_or_not (Some x) = inr refl

          stored_or_not : (b : Bool) → (b ≡ false) ⊎ IsTrue b
          stored_or_not true = inr refl
          stored_or_not false = inl refl

      turn : (phase : Phase) → state.phase p ≡ phase → Enabled ⊎ Still p
      turn Waiting is = elim (submitted is) [
        | inl may ↦ inl (record { event = Submit; new = with_phase state p InQueue; work = refl; step = (p, may, refl) })
        | inr none ↦ inr (record {
          submit = none;
          launch = λ q may. other p Waiting is InQueue (λ e. omega (arith, e)) may.waits;
          observe = λ slot s w e _ _ _. other p Waiting is Launched (λ e. omega (arith, e)) e;
          enter = λ e _. other p Waiting is Launched (λ e. omega (arith, e)) e;
          active = λ e. other p Waiting is Active (λ e. omega (arith, e)) e;
        })
      ]
      turn InQueue is = elim (may_launch job state p there is) [
        | inr may ↦ inl (record { event = Launch (packet job p).queue; new = with_phase state p Launched; work = refl; step = (p, may, refl) })
        | inl (e, f, stops) ↦ inr (record {
          submit = λ may. other p InQueue is Waiting (λ e. omega (arith, e)) may.waits;
          launch = λ q may. stopped job state q p e f stops may;
          observe = λ slot s w e _ _ _. other p InQueue is Launched (λ e. omega (arith, e)) e;
          enter = λ e _. other p InQueue is Launched (λ e. omega (arith, e)) e;
          active = λ e. other p InQueue is Active (λ e. omega (arith, e)) e;
        })
      ]
      turn Launched is = elim (waited (packet job p).kind refl) [
        | inl over ↦ inl (record { event = Enter p; new = with_phase (acquired job state p) p Active; work = refl; step = (there, is, over, refl) })
        | inr waits ↦ elim unseen [
          | inl (slot, (s, w, empty, new)) ↦ inl (record {
            event = Observe p slot;
            new = record state { observed = put2 state.observed p slot true };
            work = refl;
            step = (s, w, (λ work. waits (is_over work)), is, empty, new, refl);
          })
          | inr none ↦ inr (record {
            submit = λ may. other p Launched is Waiting (λ e. omega (arith, e)) may.waits;
            launch = λ q may. other p Launched is InQueue (λ e. omega (arith, e)) may.waits;
            observe = λ slot s w _ empty new _. none slot (s, w, empty, new);
            enter = λ _ over. waits over;
            active = λ e. other p Launched is Active (λ e. omega (arith, e)) e;
          })
        ]
      ]
        where
          is_over : (packet job p).kind ≡ Work → WaitOver job state p
          is_over work = record { each = λ k. absurd (and≢work (packet job p).kind k work); one = λ k. absurd (or≢work (packet job p).kind k work) }
      turn Active is = inl (act is)
      turn Complete is = inr (record {
        submit = λ may. other p Complete is Waiting (λ e. omega (arith, e)) may.waits;
        launch = λ q may. other p Complete is InQueue (λ e. omega (arith, e)) may.waits;
        observe = λ slot s w e _ _ _. other p Complete is Launched (λ e. omega (arith, e)) e;
        enter = λ e _. other p Complete is Launched (λ e. omega (arith, e)) e;
        active = λ e. other p Complete is Active (λ e. omega (arith, e)) e;
      })

    -- ---- all packets

    module _ (all : (p : ℕ) → IsPacket job p → Still p) where
      none_left : NoWorkLeft job state
      none_left Submit new work (p, may, is) = (all p may.is_packet).submit may
      none_left (Launch q) new work (p, may, is) = (all p may.is_packet).launch q may
      none_left (Observe p slot) new work (s, w, barrier, launched, empty, unseen, is) = (all p w.is_packet).observe slot s w launched empty unseen barrier
      none_left (Enter p) new work (there, launched, over, is) = (all p there).enter launched over
      none_left (Finish p) new work step = (all p step.0).active step.1
      none_left (Read p i) new work step = (all p step.0).active step.1
      none_left (Store p i) new work step = (all p step.0).active step.1
      none_left (PushLane p b) new work (v, there, within, held, is) = true≢false (sym (ap is_dirty held) ∙ lane_clean p b)
      none_left (PushAgent a b) new work (v, there, within, held, is) = true≢false (sym (ap is_dirty held) ∙ agent_clean a b)
      none_left (FillLane p b) new work step = true≢false (sym work)
      none_left (FillAgent a b) new work step = true≢false (sym work)
      none_left (DropLane p b) new work step = true≢false (sym work)
      none_left (DropAgent a b) new work step = true≢false (sym work)

  -- Some work step can be taken, or none is left.
  pub work_or_none : Enabled ⊎ NoWorkLeft job state
  work_or_none = elim some_lane [
    | inl f ↦ inl f
    | inr lanes ↦ elim some_agent [
      | inl f ↦ inl f
      | inr agents ↦ elim (find (length job.packets) (λ p. Enabled) (Still lanes agents) (λ p l. turn lanes agents p l (state.phase p) refl)) [
        | inl f ↦ inl f.2
        | inr all ↦ inr (none_left lanes agents all)
      ]
    ]
  ]

-- ---- on and on

-- where work steps lead that none is left behind
abbrev Reached : Job → State → Type 0
Reached job state = (more : List Event) × (last : State) × Steps job state more last × All (λ e. IsTrue (is_work e)) more × NoWorkLeft job last

on : (job : Job) (state : State) (f : Event) (mid : State) → IsTrue (is_work f) → Step job state f mid → Reached job mid → Reached job state
on job state f mid work step (more, last, steps, works, none) = (f ∷ more, last, (mid, step, steps), All-cons (λ e. IsTrue (is_work e)) f more work works, none)

module _ (job : Job) (valid : Valid job) (events : List Event) (state : State) (run : Run job events state) where
  pushable : Pushable job state
  pushable = pushable_steps job (start job) events state valid (pushable_start job) run

  -- a run that goes one work step further, and then has less left to do
  abbrev Further : Type 0
  Further = (f : Event) × (mid : State) × IsTrue (is_work f) × Step job state f mid × Run job (events ++ f ∷ []) mid × (1 + left job mid ≤ left job state)

  further : Further ⊎ NoWorkLeft job state
  further = elim (work_or_none job valid state pushable) [
    | inr none ↦ inr none
    | inl f ↦ inl (
      f.event,
      f.new,
      f.work,
      f.step,
      steps_append job (start job) events state (f.event ∷ []) f.new run (f.new, f.step, refl),
      omega (arith, step_takes job state f.event f.new valid f.step, ap counted f.work),
    )
  ]

reached : (job : Job) (valid : Valid job) (n : ℕ) (events : List Event) (state : State) → Run job events state → left job state ≤ n → Reached job state
reached job valid zero events state run l = elim (further job valid events state run) [
  | inr none ↦ ([], state, refl, All-nil (λ e. IsTrue (is_work e)), none)
  | inl (f, mid, work, step, longer, less) ↦ absurd (omega (arith, l, less))
]
reached job valid (suc n) events state run l = elim (further job valid events state run) [
  | inr none ↦ ([], state, refl, All-nil (λ e. IsTrue (is_work e)), none)
  | inl (f, mid, work, step, longer, less) ↦ on job state f mid work step (reached job valid n (events ++ f ∷ []) mid longer (omega (arith, l, less)))
]

pub standstill_reached : StandstillReached
standstill_reached job events state valid run = reached job valid (left job state) events state run (omega arith)

-- ---- what is stuck

pub stuck_exact : StuckExact
stuck_exact job valid p there = (
  λ stuck events state run. stuck_law job stuck.0 events state valid stuck.1 run p stuck.2,
  λ never.
      let (more, last, steps, works, none) = standstill_reached job [] (start job) valid refl in
      elim (ended job more last valid steps none p there) [
        | inl complete ↦ absurd (never more last steps complete)
        | inr stuck ↦ stuck
      ],
)
