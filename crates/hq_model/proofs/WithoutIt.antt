-- Runs that come as far as they can while one packet never begins.
use Rattle.std.proofs.Common.{◌≡◌, ℕ, zero, suc, ◌<◌, ◌≤◌, ◌≢◌, ◌⊎◌, inl, inr, IsTrue, List, [], ◌∷◌, ◌++◌, length, refl, sym, ◌∙◌, ap, subst, arith, Bool, false, not, ◌&&◌, eqb}
use Rattle.std.proofs.lemmas.Bool.{cases_eq, true≢false, and_from, and_parts, ne_eqb, eq-eqb, not-true, not_from_false}
use Rattle.hq_model.specs.Job.{Job, Kind, packet, IsPacket, Earlier, Dependency, Decrements}
use Rattle.hq_model.specs.Job.Kind.{Work, BarrierAnd, BarrierOr}
use Rattle.hq_model.specs.Order.{ByBit, ByQueue, In}
use Rattle.hq_model.specs.Machine.{State, Phase, Event, Run, MayLaunch, is_launched, first_phase, start, with_phase}
use Rattle.hq_model.specs.Machine.Phase.{Waiting, InQueue, Launched, Active, Complete}
use Rattle.hq_model.specs.Machine.Event.{Launch}
use Rattle.hq_model.specs.Journal.{numbers, packets_of}
use Rattle.hq_model.specs.Theorems.{Valid}
use Rattle.hq_model.specs.HoldsBack.{NeedsOneOf, HoldsBack}
use Rattle.hq_model.specs.HoldsBack.NeedsOneOf.{for_bit, for_queue, for_and, for_or}
use Rattle.hq_model.proofs.Sums.{sum_one, put_same, put_other}
use Rattle.hq_model.proofs.Orders.{earlier_packet}
use Rattle.hq_model.proofs.Places.{in_first, in_rest, in_cons, in_filter, in_numbers}
use Rattle.hq_model.proofs.Kept.{KeptBy, kept_start, kept_steps, is_complete, waiting≢complete, launched≢complete, first_waits}
use Rattle.hq_model.proofs.NoRings.{without_rings}
use Rattle.hq_model.proofs.Bound.{weight, of_phases}
use Rattle.hq_model.proofs.Finds.{find}
use Rattle.hq_model.proofs.Finished.{filtered, in_below}
use Rattle.hq_model.proofs.Journals.{steps_append}
use Rattle.hq_model.proofs.Waits.{of_each, of_some}
use Rattle.hq_model.proofs.Completed as whole
use Rattle.hq_model.proofs.Launching.{open_or_complete}
use Rattle.hq_model.proofs.Launching as launching

-- ---- phases and kinds

launched≢active : (phase : Phase) → phase ≡ Launched → phase ≢ Active
launched≢active phase e f = grind arith

complete≢active : (phase : Phase) → phase ≡ Complete → phase ≢ Active
complete≢active phase e f = grind arith

open_is : (phase : Phase) → phase ≢ Complete → is_complete phase ≡ false
open_is Waiting d = refl
open_is InQueue d = refl
open_is Launched d = refl
open_is Active d = refl
open_is Complete d = absurd (d refl)

-- ---- one packet's phase

fewer : (job : Job) (old new : ℕ → Phase) (x : ℕ) → IsPacket job x → ((k : ℕ) → k ≢ x → new k ≡ old k) → weight (new x) < weight (old x) → of_phases job new < of_phases job old
fewer job old new x there others l = omega (arith, l, sum_one (length job.packets) (λ k. weight (new k)) (λ k. weight (old k)) x there (λ k m d. ap weight (others k d)))

earlier_still : (job : Job) (a b c : ℕ) → Earlier job a b → Earlier job b c → Earlier job a c
earlier_still job a b c f g = record { ahead = omega (arith, f.ahead, g.ahead); is_packet = g.is_packet; same_queue = f.same_queue ∙ g.same_queue }

module _ (job : Job) (p : ℕ) (valid : Valid job) (plain : job.rings ≡ false) where
  -- a run in which p isn't complete, and at whose end no packet is active
  pub record SoFar : Type 0 where
    pub events : List Event
    pub state : State
    pub run : Run job events state
    pub idle : (x : ℕ) → state.phase x ≢ Active
    pub open_still : state.phase p ≢ Complete

  first : SoFar
  first = record {
    events = [];
    state = start job;
    run = refl;
    idle = λ x e. true≢false (sym (ap is_launched e) ∙ first_waits job);
    open_still = waiting≢complete (first_phase job) (first_waits job);
  }

  record Further (w : SoFar) : Type 0 where
    pub next : SoFar
    pub less : of_phases job next.state.phase < of_phases job w.state.phase

  module _ (w : SoFar) where
    abbrev phase : ℕ → Phase
    phase = w.state.phase

    abbrev Open : ℕ → Type 0
    Open e = w.state.phase e ≢ Complete

    kept : KeptBy job w.state
    kept = kept_steps job (start job) w.events w.state valid.balanced (kept_start job) w.run

    -- ---- the packets that are left, but p

    abbrev is_left : ℕ → Bool
    is_left e = not (is_complete (w.state.phase e)) && not (eqb p e)

    abbrev left : List ℕ
    left = packets_of job is_left

    in_left : (e : ℕ) → IsPacket job e → Open e → In (p ∷ left) e
    in_left e there open_e = elim (cases_eq p e) [
      | inl is ↦ in_first p left e is
      | inr d ↦ in_cons p left e (in_filter is_left (numbers (length job.packets)) e
          (and_from (not (is_complete (phase e))) (not (eqb p e)) (not_from_false (is_complete (phase e)) (open_is (phase e) open_e)) (not_from_false (eqb p e) (ne_eqb p e d)))
          (in_numbers (length job.packets) e there))
    ]

    of_left : (e : ℕ) → In left e → IsPacket job e × Open e × (p ≢ e)
    of_left e i =
        let (test, there) = filtered is_left (numbers (length job.packets)) e i in
        let (a, b) = and_parts (not (is_complete (phase e))) (not (eqb p e)) test in (
          in_below (length job.packets) e there,
          λ c. true≢false (sym (ap is_complete c) ∙ not-true (is_complete (phase e)) a),
          λ is. true≢false (sym (eq-eqb p e is) ∙ not-true (eqb p e) b),
        )

    -- ---- launches

    abbrev Stops : ℕ → ℕ → Type 0
    Stops = launching.Stops job w.state

    may_launch : (x : ℕ) → IsPacket job x → phase x ≡ InQueue → ((e : ℕ) × Earlier job e x × Stops x e) ⊎ MayLaunch job w.state (packet job x).queue x
    may_launch = launching.may_launch job w.state

    launch : (x : ℕ) → MayLaunch job w.state (packet job x).queue x → Further w
    launch x may =
        let new : State = with_phase w.state x Launched in
        record {
          next = record {
            events = w.events ++ Launch (packet job x).queue ∷ [];
            state = new;
            run = steps_append job (start job) w.events w.state (Launch (packet job x).queue ∷ []) new w.run (new, (x, may, refl), refl);
            idle = λ k e. elim (cases_eq k x) [
              | inl is ↦ launched≢active (new.phase k) (put_same phase x Launched k is) e
              | inr d ↦ w.idle k (sym (put_other phase x Launched k d) ∙ e)
            ];
            open_still = λ c. elim (cases_eq p x) [
              | inl is ↦ launched≢complete (new.phase p) (put_same phase x Launched p is) c
              | inr d ↦ w.open_still (sym (put_other phase x Launched p d) ∙ c)
            ];
          };
          less = fewer job phase new.phase x may.is_packet (λ k d. put_other phase x Launched k d) (omega (arith, ap weight may.waits, ap weight (put_same phase x Launched x refl)));
        }

    -- ---- waits

    module _ (x : ℕ) (there : IsPacket job x) (launched : w.state.phase x ≡ Launched) where
      abbrev Ready : Type 0
      Ready = whole.Ready job valid w.events w.state w.run x there launched

      each : (d : ℕ) → IsPacket job d → Open d ⊎ (phase d ≡ Complete)
      each d l = open_or_complete (phase d)

      over : (slot s : ℕ) → Dependency job x slot s → ((d : ℕ) → Decrements job d s → phase d ≡ Complete) → w.state.signal s ≡ 0
      over slot s f all = whole.signal_over job w.state valid kept x slot s f all

      -- its wait is over, or can be, or is for a packet that is left
      wait : (kind : Kind) → (packet job x).kind ≡ kind → Ready ⊎ NeedsOneOf job (p ∷ left) x
      wait Work is = inl (whole.wait_none job valid w.events w.state w.run x there launched is)
      wait BarrierAnd is = elim (of_each job Open (λ d. phase d ≡ Complete) each x there) [
        | inl (slot, s, d, f, g, o) ↦ inr (for_and d slot s (record { kind = is; dependency = f; decrements = g }) (in_left d g.is_packet o))
        | inr all ↦ inl (whole.wait_each job valid w.events w.state w.run x there launched is (λ slot s f. over slot s f (λ d g. all slot s d f g)))
      ]
      wait BarrierOr is = elim (of_some job Open (λ d. phase d ≡ Complete) each x there) [
        | inl (slot, s, f, all) ↦ inl (whole.wait_one job valid w.events w.state w.run x there launched is slot s f (over slot s f all))
        | inr some ↦
            inr (for_or (record { kind = is; some = valid.not_null x there is })
            (λ slot s f. let (d, g, o) = some slot s f in (d, g, in_left d g.is_packet o)))
      ]

      finish : x ≢ p → Ready → Further w
      finish apart ready =
          let c = whole.complete job valid w.events w.state w.run x there launched ready in
          record {
            next = record {
              events = c.events;
              state = c.state;
              run = c.run;
              idle = λ k e. elim (cases_eq k x) [
                | inl is ↦ complete≢active (c.state.phase k) (ap c.state.phase is ∙ c.over) e
                | inr d ↦ w.idle k (sym (c.others k d) ∙ e)
              ];
              open_still = λ e. w.open_still (sym (c.others p (λ is. apart (sym is))) ∙ e);
            };
            less = fewer job phase c.state.phase x there c.others (omega (arith, ap weight launched, ap weight c.over));
          }

    -- ---- what stays as it is

    -- x is complete; is p, and launched; isn't launched, since an earlier packet stops that; or waits for a packet that is left
    abbrev Stays : ℕ → Type 0
    Stays x =
        (w.state.phase x ≡ Complete)
        ⊎ (((x ≡ p) × IsTrue (is_launched (w.state.phase x)))
        ⊎ (((e : ℕ) × Earlier job e x × Stops x e)
        ⊎ (IsTrue (is_launched (w.state.phase x)) × NeedsOneOf job (p ∷ left) x)))

    turn : (x : ℕ) → IsPacket job x → Further w ⊎ Stays x
    turn x there = go (phase x) refl
      where
        go : (now : Phase) → phase x ≡ now → Further w ⊎ Stays x
        go Waiting e = absurd (without_rings job w.events w.state plain w.run x e)
        go InQueue e = elim (may_launch x there e) [
          | inl f ↦ inr (inr (inr (inl f)))
          | inr may ↦ inl (launch x may)
        ]
        go Launched e = elim (cases_eq x p) [
          | inl is ↦ inr (inr (inl (is, ap is_launched e)))
          | inr d ↦ elim (wait x there e (packet job x).kind refl) [
            | inl v ↦ inl (finish x there e d v)
            | inr needs ↦ inr (inr (inr (inr (ap is_launched e, needs))))
          ]
        ]
        go Active e = absurd (w.idle x e)
        go Complete e = inr (inl e)

    -- An earlier packet is left, and a bit behind it, or itself as a barrier packet, holds x in its queue.
    abbrev Queued : ℕ → Type 0
    Queued x =
        (e : ℕ) × Open e × (ByQueue job e x ⊎ ((j : ℕ) × ByBit job e x j))

    queued_behind : (x y : ℕ) → Queued x → Earlier job x y → Queued y
    queued_behind x y (e, o, inl by) g = (e, o, inl (record { earlier = earlier_still job e x y by.earlier g; barrier = by.barrier }))
    queued_behind x y (e, o, inr (j, by)) g = (
      e,
      o,
      inr (
        j,
        record {
          earlier = by.earlier;
          bit = by.bit;
          upto = inr (elim by.upto [
            | inl is ↦ subst (λ k. Earlier job k y) (sym is) g
            | inr h ↦ earlier_still job j x y h g
          ]);
        },
      ),
    )

    queued_needs : (x : ℕ) → Queued x → NeedsOneOf job (p ∷ left) x
    queued_needs x (e, o, inl by) = for_queue e by (in_left e (earlier_packet job e x by.earlier) o)
    queued_needs x (e, o, inr (j, by)) = for_bit e j by (in_left e (earlier_packet job e j by.earlier) o)

    stopped : (x e : ℕ) → Earlier job e x → Stops x e → (is_launched (phase e) ≡ false → Queued e) → Queued x
    stopped x e f (inl waits) later = queued_behind e x (later waits) f
    stopped x e f (inr (inl b, o)) later = (e, o, inr (x, record { earlier = f; bit = b; upto = inl refl }))
    stopped x e f (inr (inr b, o)) later = (e, o, inl (record { earlier = f; barrier = b }))

    module _ (all : (x : ℕ) → IsPacket job x → Stays x) where
      queued : (k x : ℕ) → x < k → IsPacket job x → is_launched (phase x) ≡ false → Queued x
      queued zero x l there none = absurd (omega (arith, l))
      queued (suc k) x l there none = go (all x there) (λ e f. queued k e (omega (arith, f.ahead, l)) (earlier_packet job e x f))
        where
          go : Stays x → ((e : ℕ) → Earlier job e x → is_launched (phase e) ≡ false → Queued e) → Queued x
          go (inl c) later = absurd (waiting≢complete (phase x) none c)
          go (inr (inl (is, gone))) later = absurd (true≢false (sym gone ∙ none))
          go (inr (inr (inl (e, f, stops)))) later = stopped x e f stops (later e f)
          go (inr (inr (inr (gone, needs)))) later = absurd (true≢false (sym gone ∙ none))

      needs_left : (x : ℕ) → In left x → NeedsOneOf job (p ∷ left) x
      needs_left x i = let (there, o, apart) = of_left x i in go o apart (all x there)
        where
          go : Open x → p ≢ x → Stays x → NeedsOneOf job (p ∷ left) x
          go o apart (inl c) = absurd (o c)
          go o apart (inr (inl (is, gone))) = absurd (apart (sym is))
          go o apart (inr (inr (inl (e, f, stops)))) =
              queued_needs x (stopped x e f stops (λ waits. queued (suc e) e (omega arith) (earlier_packet job e x f) waits))
          go o apart (inr (inr (inr (gone, needs)))) = needs

    some_turn : Further w ⊎ ((x : ℕ) → IsPacket job x → Stays x)
    some_turn = elim (find (length job.packets) (λ x. Further w) Stays turn) [
      | inl f ↦ inl f.2
      | inr all ↦ inr all
    ]

  -- as far as it goes
  grown : (m : ℕ) (w : SoFar) → of_phases job w.state.phase ≤ m → (end : SoFar) × ((x : ℕ) → IsPacket job x → Stays end x)
  grown zero w l = elim (some_turn w) [
    | inl f ↦ absurd (omega (arith, l, f.less))
    | inr all ↦ (w, all)
  ]
  grown (suc m) w l = elim (some_turn w) [
    | inl f ↦ grown m f.next (omega (arith, l, f.less))
    | inr all ↦ (w, all)
  ]

  -- p holds r back, or some run completes r while p isn't complete
  pub held_or_free : (r : ℕ) → IsPacket job r → p ≢ r
      → HoldsBack job p r ⊎ ((events : List Event) × (state : State) × Run job events state × (state.phase r ≡ Complete) × (state.phase p ≢ Complete))
  held_or_free r there apart =
      let (end, all) = grown (of_phases job first.state.phase) first (omega arith) in
      elim (open_or_complete (end.state.phase r)) [
        | inl o ↦ inl (record { set = left end; member = in_rest p (left end) r apart (in_left end r there o); needs = needs_left end all })
        | inr c ↦ inr (end.events, end.state, end.run, c, end.open_still)
      ]
