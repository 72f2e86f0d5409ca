-- A run that no work is left to has completed all but what is stuck.
use Rattle.std.proofs.Common.{◌≡◌, ℕ, zero, suc, ◌<◌, ◌≢◌, ◌⊎◌, inl, inr, is_some, filter, List, [], ◌∷◌, length, refl, sym, ◌∙◌, ap, subst, arith, Bool, true, false, cond, Option, Some, None, slice_index, lt_trans}
use Rattle.std.proofs.lemmas.List.Elements.{filter_passes}
use Rattle.std.proofs.lemmas.Bool.{cases_eq, cases_Bool, cond-false, true≢false}
use Rattle.hq_model.specs.Job.{Job, Kind, packet, IsPacket, Earlier, Dependency, Decrements, IsBarrier, agent_of, completes_on}
use Rattle.hq_model.specs.Job.Kind.{Work, BarrierAnd, BarrierOr}
use Rattle.hq_model.specs.Order.{place, In, Ahead, FreesFor, StuckSet, Stuck}
use Rattle.hq_model.specs.Schedule.{MayCome, left_of}
use Rattle.hq_model.specs.Machine.{State, Copy, Phase, Event, Step, Steps, Run, listed, AllRead, AllStored, NoWorkLeft, IsByte, is_dirty, without_clean, clean, dirty, put, put2, start, with_phase, is_launched, acquired, completed, lane_sees, bytes_stored}
use Rattle.hq_model.specs.Machine.Phase.{Waiting, InQueue, Launched, Active, Complete}
use Rattle.hq_model.specs.Machine.Event.{Submit, Launch, Observe, Enter, Read, Store, PushLane, PushAgent, FillLane, FillAgent, DropLane, DropAgent}
use Rattle.hq_model.specs.Theorems.{Valid}
use Rattle.hq_model.specs.Finishing.{StandstillLaw, FinishLaw}
use Rattle.hq_model.proofs.Sums.{sum_same, put2_same, put2_other}
use Rattle.hq_model.proofs.Places.{place_of_packets, in_or_not, in_filter, in_numbers}
use Rattle.hq_model.proofs.Schedule.{IsLeft, left_in, left_out, left_packets, comes_or_blocked}
use Rattle.hq_model.proofs.Orders.{none_where_stuck}
use Rattle.hq_model.proofs.Stuck.{stuck_law}
use Rattle.hq_model.proofs.NoRings.{waits_for_rings}
use Rattle.hq_model.proofs.Kept.{KeptBy, signal_of, is_complete, count_at, one_at, decrementers_are, kept_start, kept_steps}
use Rattle.hq_model.proofs.Bound as bounds

pub dirty_is : (copy : Option Copy) → is_dirty copy ≡ true → (v : ℕ) × (copy ≡ dirty v)
dirty_is None e = absurd (true≢false (sym e))
dirty_is (Some c) e = (c.value, λ i. Some (record { value = c.value; dirty = e i }))

pub not_dirty : (copy : Option Copy) → (is_dirty copy ≡ true → ⊥) → is_dirty copy ≡ false
not_dirty copy h = elim (cases_Bool (is_dirty copy)) [ inl e ↦ absurd (h e) | inr e ↦ e ]

and≢work : (kind : Kind) → kind ≡ BarrierAnd → kind ≢ Work
and≢work kind e f = grind arith

or≢work : (kind : Kind) → kind ≡ BarrierOr → kind ≢ Work
or≢work kind e f = grind arith

phase_is : (phase : Phase) → (phase ≡ Waiting → ⊥) → (phase ≡ InQueue → ⊥) → (phase ≡ Launched → ⊥) → (phase ≡ Active → ⊥) → phase ≡ Complete
phase_is Waiting w a b c = absurd (w refl)
phase_is InQueue w a b c = absurd (a refl)
phase_is Launched w a b c = absurd (b refl)
phase_is Active w a b c = absurd (c refl)
phase_is Complete w a b c = refl

pub some_of : (o : Option ℕ) → (o ≡ None → ⊥) → is_some o ≡ true
some_of None h = absurd (h refl)
some_of (Some x) h = refl

complete_of : (phase : Phase) → is_complete phase ≡ true → phase ≡ Complete
complete_of Waiting e = absurd (true≢false (sym e))
complete_of InQueue e = absurd (true≢false (sym e))
complete_of Launched e = absurd (true≢false (sym e))
complete_of Active e = absurd (true≢false (sym e))
complete_of Complete e = refl

-- ---- what is dirty could be pushed

no_copy : is_dirty None ≡ true → ⊥
no_copy e = true≢false (sym e)

dirty_before : (t : Bool) (copy : Option Copy) → is_dirty (cond t (without_clean copy) copy) ≡ true → is_dirty copy ≡ true
dirty_before false copy e = e
dirty_before true copy e = elim (cases_Bool (is_dirty copy)) [
  | inl d ↦ d
  | inr c ↦ absurd (true≢false (sym e ∙ ap is_dirty (cond-false (is_dirty copy) copy None c)))
]

-- Only lanes of packets, agents of the job and bytes of its memory are ever dirty.
pub record Pushable (job : Job) (state : State) : Type 0 where
  pub lanes : (p b : ℕ) → is_dirty (state.lane p b) ≡ true → IsPacket job p × IsByte job b
  pub agents : (a b : ℕ) → is_dirty (state.agent a b) ≡ true → (a < job.agents) × IsByte job b

put_pushable : (P : ℕ → ℕ → Type 0) (f : ℕ → ℕ → Option Copy) (k l : ℕ) (x : Option Copy) → ((m n : ℕ) → is_dirty (f m n) ≡ true → P m n) → (is_dirty x ≡ true → P k l) → (m n : ℕ) → is_dirty (put2 f k l x m n) ≡ true → P m n
put_pushable P f k l x was here m n d = elim (cases_eq m k) [
  | inl e ↦ elim (cases_eq n l) [
    | inl g ↦ subst (P m) (sym g) (subst (λ y. P y l) (sym e) (here (ap is_dirty (sym (put2_same f k l x m n e g)) ∙ d)))
    | inr g ↦ was m n (ap is_dirty (sym (put2_other f k l x m n (λ _ h. g h))) ∙ d)
  ]
  | inr e ↦ was m n (ap is_dirty (sym (put2_other f k l x m n (λ h _. e h))) ∙ d)
]

pushable_step : (job : Job) (old : State) (event : Event) (new : State) → Valid job → Pushable job old → Step job old event new → Pushable job new
pushable_step job old Submit new valid k step = subst (Pushable job) (sym step.2) (record { lanes = k.lanes; agents = k.agents })
pushable_step job old (Launch q) new valid k step = subst (Pushable job) (sym step.2) (record { lanes = k.lanes; agents = k.agents })
pushable_step job old (Observe p slot) new valid k step = subst (Pushable job) (sym step.6) (record { lanes = k.lanes; agents = k.agents })
pushable_step job old (Enter p) new valid k step = subst (Pushable job) (sym step.3) (record {
  lanes = λ l b d. k.lanes l b (dirty_before _ (old.lane l b) d);
  agents = λ a b d. k.agents a b (dirty_before _ (old.agent a b) d);
})
pushable_step job old (Read p i) new valid k step = subst (Pushable job) (sym step.4) (record { lanes = k.lanes; agents = k.agents })
pushable_step job old (Store p i) new valid k (there, active, read, within, fresh, is) = subst (Pushable job) (sym is) (record {
  lanes = put_pushable (λ l b. IsPacket job l × IsByte job b) old.lane p (slice_index (packet job p).writes i) _ k.lanes (λ d. (there, valid.writes p i 0 within));
  agents = k.agents;
})
pushable_step job old (Event.Finish p) new valid k step = subst (Pushable job) (sym step.5) (record { lanes = k.lanes; agents = k.agents })
pushable_step job old (PushLane p b) new valid k (v, there, within, held, is) = subst (Pushable job) (sym is) (record {
  lanes = put_pushable (λ l c. IsPacket job l × IsByte job c) old.lane p b (clean v) k.lanes (λ d. (there, within));
  agents = put_pushable (λ a c. (a < job.agents) × IsByte job c) old.agent (agent_of job p) b (dirty v) k.agents (λ d. (valid.agents (packet job p).queue 0 (valid.queues p there), within));
})
pushable_step job old (PushAgent a b) new valid k (v, there, within, held, is) = subst (Pushable job) (sym is) (record {
  lanes = k.lanes;
  agents = put_pushable (λ m c. (m < job.agents) × IsByte job c) old.agent a b (clean v) k.agents (λ d. (there, within));
})
pushable_step job old (FillLane p b) new valid k (there, within, held, is) = subst (Pushable job) (sym is) (record {
  lanes = put_pushable (λ l c. IsPacket job l × IsByte job c) old.lane p b _ k.lanes (λ d. (there, within));
  agents = k.agents;
})
pushable_step job old (FillAgent a b) new valid k (there, within, held, is) = subst (Pushable job) (sym is) (record {
  lanes = k.lanes;
  agents = put_pushable (λ m c. (m < job.agents) × IsByte job c) old.agent a b _ k.agents (λ d. (there, within));
})
pushable_step job old (DropLane p b) new valid k (v, there, within, held, is) = subst (Pushable job) (sym is) (record {
  lanes = put_pushable (λ l c. IsPacket job l × IsByte job c) old.lane p b None k.lanes (λ d. (there, within));
  agents = k.agents;
})
pushable_step job old (DropAgent a b) new valid k (v, there, within, held, is) = subst (Pushable job) (sym is) (record {
  lanes = k.lanes;
  agents = put_pushable (λ m c. (m < job.agents) × IsByte job c) old.agent a b None k.agents (λ d. (there, within));
})

pub pushable_steps : (job : Job) (old : State) (events : List Event) (new : State) → Valid job → Pushable job old → Steps job old events new → Pushable job new
pushable_steps job old [] new valid k is = subst (Pushable job) (sym is) k
pushable_steps job old (event ∷ events) new valid k (mid, step, rest) = pushable_steps job mid events new valid (pushable_step job old event mid valid k step) rest

pub pushable_start : (job : Job) → Pushable job (start job)
pushable_start job = record { lanes = λ l b d. absurd (no_copy d); agents = λ a b d. absurd (no_copy d) }

-- ---- the end

module _ (job : Job) (state : State) (pushable : Pushable job state) (stuck : NoWorkLeft job state) where
  lanes_clean : (p b : ℕ) → is_dirty (state.lane p b) ≡ false
  lanes_clean p b = not_dirty (state.lane p b) (λ e.
      let (there, within) = pushable.lanes p b e in
      let (v, is) = dirty_is (state.lane p b) e in
      stuck (PushLane p b) (record state { lane = put2 state.lane p b (clean v); agent = put2 state.agent (agent_of job p) b (dirty v) }) refl (v, there, within, is, refl))

  agents_clean : (a b : ℕ) → is_dirty (state.agent a b) ≡ false
  agents_clean a b = not_dirty (state.agent a b) (λ e.
      let (there, within) = pushable.agents a b e in
      let (v, is) = dirty_is (state.agent a b) e in
      stuck (PushAgent a b) (record state { agent = put2 state.agent a b (clean v); memory = put state.memory b v }) refl (v, there, within, is, refl))

module _ (job : Job) (valid : Valid job) (state : State) (kept : KeptBy job state) (pushable : Pushable job state) (rings : (p : ℕ) → state.phase p ≡ Waiting → job.rings ≡ true) (stuck : NoWorkLeft job state) where
  -- where all decrementers are complete, the signal is 0
  signal_zero : (p slot s : ℕ) → Dependency job p slot s → ((d : ℕ) → Decrements job d s → state.phase d ≡ Complete) → state.signal s ≡ 0
  signal_zero p slot s w h = omega (
    arith,
    kept.signals s,
    valid.balanced.exact p slot s w,
    decrementers_are job s,
    sum_same (length job.packets) (count_at job state.phase s) (one_at job s) (λ d l. same d l (completes_on s (packet job d)) refl),
  )
    where
      same : (d : ℕ) → d < length job.packets → (t : Bool) → completes_on s (packet job d) ≡ t → count_at job state.phase s d ≡ one_at job s d
      same d l true e =
          let c = h d (record { is_packet = l; signal = signal_of s (packet job d).done e }) in
          ap (λ x. bounds.counted_at (completes_on s (packet job d)) (is_complete x)) c
      same d l false e = ap (λ x. bounds.counted_at x (is_complete (state.phase d))) e ∙ sym (ap (λ x. bounds.counted x) e)

  observed : (p slot s : ℕ) → Dependency job p slot s → IsBarrier job p → state.phase p ≡ Launched → ((d : ℕ) → Decrements job d s → state.phase d ≡ Complete) → state.observed p slot ≡ true
  observed p slot s w barrier launched h = elim (cases_Bool (state.observed p slot)) [
    | inl e ↦ e
    | inr e ↦ absurd (stuck (Observe p slot) (record state { observed = put2 state.observed p slot true }) refl (s, w, barrier, launched, signal_zero p slot s w h, e, refl))
  ]

  -- Where what frees slots for p is complete, p doesn't wait: the first that does could be submitted.
  none_waits : (n p : ℕ) → IsPacket job p → state.phase p ≡ Waiting → ((e : ℕ) → FreesFor job e p → state.phase e ≡ Complete) → place job.submissions p < n → ⊥
  none_waits zero p there waits h l = omega arith
  none_waits (suc n) p there waits h l = stuck Submit (with_phase state p InQueue) refl (
    p,
    record {
      rings = rings p waits;
      is_packet = there;
      waits = waits;
      next = λ e ahead w. none_waits n e (packet_at e ahead) w (λ q f. h q (passed q e f ahead)) (lower (place job.submissions e) (place job.submissions p) n ahead l);
      slot = λ e f. h e (record { is_packet = there; m = p; upto = inl refl; frees = f });
    },
    refl,
  )
    where
      lower : (a b n : ℕ) → a < b → b < suc n → a < n
      lower a b n l m = omega arith

      packet_at : (e : ℕ) → Ahead job.submissions e p → IsPacket job e
      packet_at e ahead = place_of_packets (IsPacket job) job.submissions e valid.submissions.packets (omega (arith, ahead, valid.submissions.all p there))

      passed : (q e : ℕ) → FreesFor job q e → Ahead job.submissions e p → FreesFor job q p
      passed q e f ahead = record { is_packet = there; m = f.m; upto = inr (elim f.upto [ inl is ↦ subst (λ x. Ahead job.submissions x p) (sym is) ahead | inr before ↦ lt_trans before ahead ]); frees = f.frees }

  -- the packets that are complete
  abbrev done : List ℕ
  done = filter (λ p. is_complete (state.phase p)) (listed (length job.packets) (λ p. p))

  done_complete : (p : ℕ) → In done p → state.phase p ≡ Complete
  done_complete p i = complete_of (state.phase p) (place_of_packets (λ q. is_complete (state.phase q) ≡ true) done p (filter_passes (λ q. is_complete (state.phase q)) (listed (length job.packets) (λ q. q))) i)

  complete_done : (p : ℕ) → IsPacket job p → state.phase p ≡ Complete → In done p
  complete_done p there e = in_filter (λ q. is_complete (state.phase q)) (listed (length job.packets) (λ q. q)) p (ap is_complete e) (in_numbers (length job.packets) p there)

  no_wait : (p : ℕ) → MayCome job done p → state.phase p ≡ Complete
  no_wait p may = phase_is (state.phase p)
      (λ e. none_waits (suc (place job.submissions p)) p there e (λ q f. done_complete q (may.slots q f)) (omega arith))
      (λ e. stuck (Launch (packet job p).queue) (with_phase state p Launched) refl (
        p,
        record {
          is_packet = there;
          queue = refl;
          waits = e;
          next = λ q f. ap is_launched (earlier q f);
          bit = λ _ q f. earlier q f;
          barriers = λ q f _. earlier q f;
        },
        refl,
      ))
      (λ e. stuck (Enter p) (with_phase (acquired job state p) p Active) refl (
        there,
        e,
        record {
          each = λ k slot s w. observed p slot s w (and≢work (packet job p).kind k) e (λ d f. done_complete d (may.ands slot s d k w f));
          one = λ k. let (slot, s, w, all) = may.ors k in (slot, s, w, observed p slot s w (or≢work (packet job p).kind k) e (λ d f. done_complete d (all d f)));
        },
        refl,
      ))
      (λ e.
      let read : AllRead job state p = λ i l. some_of (state.read p i) (λ none. stuck (Read p i) (record state { read = put2 state.read p i (Some (lane_sees job state p (slice_index (packet job p).reads i))) }) refl (there, e, l, none, refl)) in
      let stored : AllStored job state p = λ i l. elim (cases_Bool (state.stored p i)) [
        | inl t ↦ t
        | inr f ↦ absurd (stuck (Store p i) (record state { stored = put2 state.stored p i true; lane = put2 state.lane p (slice_index (packet job p).writes i) (dirty (slice_index (bytes_stored job state p) i)) }) refl (there, e, read, l, f, refl))
      ] in
      stuck (Event.Finish p) (completed job state p) refl (there, e, read, stored, record { lanes = λ _ l b _ _. lanes_clean job state pushable stuck l b; agent = λ _ b. agents_clean job state pushable stuck (agent_of job p) b }, refl))
    where
      there : IsPacket job p
      there = may.is_packet

      earlier : (q : ℕ) → Earlier job q p → state.phase q ≡ Complete
      earlier q f = done_complete q (may.queues q f)

  none_comes : (p : ℕ) → MayCome job done p → ⊥
  none_comes p may = may.new (complete_done p may.is_packet (no_wait p may))

  -- what isn't complete is stuck
  left_stuck : (p : ℕ) → IsLeft job done p → StuckSet job (left_of job done)
  left_stuck p i = record {
    some = omega (arith, i);
    packets = left_packets job done;
    blocked = λ r j. elim (comes_or_blocked job done r (place_of_packets (λ q. IsPacket job q) (left_of job done) r (left_packets job done) j) (left_out job done r j)) [
      | inl may ↦ absurd (none_comes r may)
      | inr blocked ↦ blocked
    ];
  }

  pub complete_or_stuck : (p : ℕ) → IsPacket job p → (state.phase p ≡ Complete) ⊎ ((set : List ℕ) × StuckSet job set × In set p)
  complete_or_stuck p there = elim (in_or_not done p) [
    | inl i ↦ inl (done_complete p i)
    | inr o ↦ let left = left_in job done p there o in inr (left_of job done, left_stuck p left, left)
  ]

pub ended : (job : Job) (events : List Event) (state : State) → Valid job → Run job events state → NoWorkLeft job state → (p : ℕ) → IsPacket job p → (state.phase p ≡ Complete) ⊎ Stuck job p
ended job events state valid run stuck = complete_or_stuck job valid state (kept_steps job (start job) events state valid.balanced (kept_start job) run) (pushable_steps job (start job) events state valid (pushable_start job) run) (waits_for_rings job events state run) stuck

pub standstill_law : StandstillLaw
standstill_law job events state valid run stuck p there = (
  λ complete held. stuck_law job held.0 events state valid held.1 run p held.2 complete,
  λ free. elim (ended job events state valid run stuck p there) [
    | inl complete ↦ complete
    | inr held ↦ absurd (free held)
  ],
)

pub finish_law : FinishLaw
finish_law job list events state valid order run stuck = record {
  complete = λ p there. elim (ended job events state valid run stuck p there) [
    | inl complete ↦ complete
    | inr held ↦ absurd (none_where_stuck job list held.0 order held.1)
  ];
  lanes_clean = lanes_clean job state (pushable_steps job (start job) events state valid (pushable_start job) run) stuck;
  agents_clean = agents_clean job state (pushable_steps job (start job) events state valid (pushable_start job) run) stuck;
}
