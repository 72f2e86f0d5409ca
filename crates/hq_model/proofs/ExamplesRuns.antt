-- Runs of small jobs, step by step.
use Rattle.std.proofs.Common.{◌≡◌, ℕ, zero, suc, ◌<◌, IsTrue, List, [], ◌∷◌, refl, sym, ◌∙◌, ap, arith, Bool, true, false, cond, eqb, ◌&&◌, Some, None}
use Rattle.std.proofs.lemmas.Bool.{true≢false}
use Rattle.hq_model.specs.Job.{Job, Kind, packet, IsPacket, Earlier, IsBarrier}
use Rattle.hq_model.specs.Job.Kind.{Work, BarrierAnd, BarrierOr}
use Rattle.hq_model.specs.Order.{OrderList}
use Rattle.hq_model.specs.Machine.{State, Phase, Event, Run, MayLaunch, WaitOver, Released, is_launched, is_dirty, start, with_phase, acquired, completed, clean, dirty, put2}
use Rattle.hq_model.specs.Machine.Phase.{Launched, Active, Complete}
use Rattle.hq_model.specs.OneByOne.{given}
use Rattle.hq_model.specs.Theorems.{Headline}
use Rattle.hq_model.specs.Examples.{one_byte, two_nops, unreleased_run, early_fill_run, second_first_run}
use Rattle.hq_model.proofs.Orders.{order_lists_extend}
use Rattle.hq_model.proofs.Tested.{order_by_test, each_once_by_test}
use Rattle.hq_packet.specs.declared.packet.Scope.{Scope}
use Rattle.hq_packet.specs.declared.packet.Scope.TheVariants as scope

work≢and : (kind : Kind) → kind ≡ Work → kind ≡ BarrierAnd → ⊥
work≢and kind e f = grind arith

work≢or : (kind : Kind) → kind ≡ Work → kind ≡ BarrierOr → ⊥
work≢or kind e f = grind arith

work_waits : (job : Job) (state : State) (p : ℕ) → (packet job p).kind ≡ Work → WaitOver job state p
work_waits job state p e = record { each = λ k. absurd (work≢and (packet job p).kind e k); one = λ k. absurd (work≢or (packet job p).kind e k) }

none_earlier : (job : Job) (e : ℕ) → Earlier job e 0 → ⊥
none_earlier job e f = omega (arith, f.ahead)

nothing_released : (job : Job) (state : State) (p : ℕ) → (packet job p).release ≡ scope.None → Released job state p scope.None
nothing_released job state p e = record { lanes = λ h. absurd (true≢false (sym h)); agent = λ h. absurd (true≢false (sym h)) }

-- the first packet of a queue
first_launch : (job : Job) (state : State) → IsPacket job 0 → state.phase 0 ≡ Phase.InQueue → MayLaunch job state (packet job 0).queue 0
first_launch job state there e = record {
  is_packet = there;
  queue = refl;
  waits = e;
  next = λ x f. absurd (none_earlier job x f);
  bit = λ b x f. absurd (none_earlier job x f);
  barriers = λ x f b. absurd (none_earlier job x f);
}

-- ---- out of order

first_alone : (e : ℕ) → Earlier two_nops e 1 → e ≡ 0
first_alone e f = omega (arith, f.ahead)

abbrev nop_start : State
nop_start = start two_nops

abbrev nop_first : State
nop_first = with_phase nop_start 0 Launched

abbrev nop_both : State
nop_both = with_phase nop_first 1 Launched

abbrev nop_entered : State
nop_entered = with_phase (acquired two_nops nop_both 1) 1 Active

pub second_first : (state : State) × Run two_nops second_first_run state × (state.phase 0 ≡ Launched) × (state.phase 1 ≡ Complete)
second_first = (
  completed two_nops nop_entered 1,
  (
    nop_first,
    (0, first_launch two_nops nop_start (omega arith) refl, refl),
    (
      nop_both,
      (1, may, refl),
      (
        nop_entered,
        (omega arith, refl, work_waits two_nops nop_both 1 refl, refl),
        (completed two_nops nop_entered 1, (omega arith, refl, λ i l. absurd (omega arith), λ i l. absurd (omega arith), nothing_released two_nops nop_entered 1 refl, refl), refl),
      ),
    ),
  ),
  refl,
  refl,
)
  where
    at_zero : (e : ℕ) → e ≡ 0 → IsTrue (is_launched (nop_first.phase e))
    at_zero zero e = refl
    at_zero (suc x) e = absurd (omega arith)

    no_bit : false ≡ true → ⊥
    no_bit e = true≢false (sym e)

    work : (x : ℕ) → x ≡ 0 → IsBarrier two_nops x → ⊥
    work zero e b = b refl
    work (suc x) e b = absurd (omega arith)

    may : MayLaunch two_nops nop_first 0 1
    may = record {
      is_packet = omega arith;
      queue = refl;
      waits = refl;
      next = λ e f. at_zero e (first_alone e f);
      bit = λ b e f. absurd (no_bit b);
      barriers = λ e f b. absurd (work e (first_alone e f) b);
    }

-- ---- a fill and a copy of one byte

-- its second packet may be launched once the first is complete
second_launch : (release acquire : Scope) (state : State) → state.phase 0 ≡ Complete → state.phase 1 ≡ Phase.InQueue → MayLaunch (one_byte release acquire) state 0 1
second_launch release acquire state done waits = record {
  is_packet = omega arith;
  queue = refl;
  waits = waits;
  next = λ e f. ap (λ x. is_launched (state.phase x)) (only e f.ahead) ∙ ap is_launched done;
  bit = λ b e f. ap state.phase (only e f.ahead) ∙ done;
  barriers = λ e f b. ap state.phase (only e f.ahead) ∙ done;
}
  where
    only : (e : ℕ) → e < 1 → e ≡ 0
    only e l = omega arith

stored_one : (n : ℕ) (P : ℕ → Type 0) → n ≡ 1 → P 0 → (i : ℕ) → i < n → P i
stored_one n P e h zero l = h
stored_one n P e h (suc i) l = absurd (omega arith)

given_is : (release acquire : Scope) → given (one_byte release acquire) (0 ∷ 1 ∷ []) 1 ≡ 7 ∷ []
given_is release acquire = refl

-- ---- nothing released

abbrev lost : Job
lost = one_byte scope.None scope.System

abbrev lost_launched : State
lost_launched = with_phase (start lost) 0 Launched

abbrev lost_entered : State
lost_entered = with_phase (acquired lost lost_launched 0) 0 Active

abbrev lost_stored : State
lost_stored = record lost_entered { stored = put2 lost_entered.stored 0 0 true; lane = put2 lost_entered.lane 0 0 (dirty 7) }

abbrev lost_done : State
lost_done = completed lost lost_stored 0

abbrev lost_second : State
lost_second = with_phase lost_done 1 Launched

abbrev lost_reads : State
lost_reads = with_phase (acquired lost lost_second 1) 1 Active

pub unreleased_read : (state : State) × Run lost unreleased_run state × (state.read 1 0 ≡ Some 0)
unreleased_read = (
  record lost_reads { read = put2 lost_reads.read 1 0 (Some 0) },
  (
    lost_launched,
    (0, first_launch lost (start lost) (omega arith) refl, refl),
    (
      lost_entered,
      (omega arith, refl, work_waits lost lost_launched 0 refl, refl),
      (
        lost_stored,
        (omega arith, refl, λ i l. absurd (omega arith), omega arith, refl, refl),
        (
          lost_done,
          (omega arith, refl, λ i l. absurd (omega arith), stored_one 1 (λ i. IsTrue (lost_stored.stored 0 i)) refl refl, nothing_released lost lost_stored 0 refl, refl),
          (
            lost_second,
            (1, second_launch scope.None scope.System lost_done refl refl, refl),
            (
              lost_reads,
              (omega arith, refl, work_waits lost lost_second 1 refl, refl),
              (record lost_reads { read = put2 lost_reads.read 1 0 (Some 0) }, (omega arith, refl, omega arith, refl, refl), refl),
            ),
          ),
        ),
      ),
    ),
  ),
  refl,
)

-- ---- nothing acquired

abbrev old : Job
old = one_byte scope.Agent scope.None

abbrev old_filled : State
old_filled = record (start old) { lane = put2 (start old).lane 1 0 (clean 0) }

abbrev old_launched : State
old_launched = with_phase old_filled 0 Launched

abbrev old_entered : State
old_entered = with_phase (acquired old old_launched 0) 0 Active

abbrev old_stored : State
old_stored = record old_entered { stored = put2 old_entered.stored 0 0 true; lane = put2 old_entered.lane 0 0 (dirty 7) }

abbrev old_pushed : State
old_pushed = record old_stored { lane = put2 old_stored.lane 0 0 (clean 7); agent = put2 old_stored.agent 0 0 (dirty 7) }

abbrev old_done : State
old_done = completed old old_pushed 0

abbrev old_second : State
old_second = with_phase old_done 1 Launched

abbrev old_reads : State
old_reads = with_phase (acquired old old_second 1) 1 Active

pub early_fill_read : (state : State) × Run old early_fill_run state × (state.read 1 0 ≡ Some 0)
early_fill_read = (
  record old_reads { read = put2 old_reads.read 1 0 (Some 0) },
  (
    old_filled,
    (omega arith, omega arith, refl, refl),
    (
      old_launched,
      (0, first_launch old old_filled (omega arith) refl, refl),
      (
        old_entered,
        (omega arith, refl, work_waits old old_launched 0 refl, refl),
        (
          old_stored,
          (omega arith, refl, λ i l. absurd (omega arith), omega arith, refl, refl),
          (
            old_pushed,
            (7, omega arith, omega arith, refl, refl),
            (
              old_done,
              (omega arith, refl, λ i l. absurd (omega arith), stored_one 1 (λ i. IsTrue (old_pushed.stored 0 i)) refl refl, released, refl),
              (
                old_second,
                (1, second_launch scope.Agent scope.None old_done refl refl, refl),
                (
                  old_reads,
                  (omega arith, refl, work_waits old old_second 1 refl, refl),
                  (record old_reads { read = put2 old_reads.read 1 0 (Some 0) }, (omega arith, refl, omega arith, refl, refl), refl),
                ),
              ),
            ),
          ),
        ),
      ),
    ),
  ),
  refl,
)
  where
    all_clean : (t u : Bool) → is_dirty (cond t (clean 7) (cond t (dirty 7) (cond u (clean 0) None))) ≡ false
    all_clean true u = refl
    all_clean false true = refl
    all_clean false false = refl

    released : Released old old_pushed 0 scope.Agent
    released = record {
      lanes = λ h l b there q. all_clean (eqb l 0 && eqb b 0) (eqb l 1 && eqb b 0);
      agent = λ h. absurd (true≢false (sym h));
    }

-- ---- neither is what the order gives

order : (release acquire : Scope) → OrderList (one_byte release acquire) (0 ∷ 1 ∷ [])
order release acquire = order_by_test (one_byte release acquire) (0 ∷ 1 ∷ []) refl (each_once_by_test (one_byte release acquire) (0 ∷ 1 ∷ []) refl refl refl) refl refl refl

not_given : (release acquire : Scope) (events : List Event) (state : State) → Run (one_byte release acquire) events state → state.read 1 0 ≡ Some 0 → Headline (one_byte release acquire) → ⊥
not_given release acquire events state run read h = omega (arith, (h (0 ∷ 1 ∷ []) (order_lists_extend (one_byte release acquire) (0 ∷ 1 ∷ []) (order release acquire))).reads events state run 1 0 0 read)

pub unreleased_fails : Headline lost → ⊥
unreleased_fails = let (state, run, read) = unreleased_read in not_given scope.None scope.System unreleased_run state run read

pub early_fill_fails : Headline old → ⊥
early_fill_fails = let (state, run, read) = early_fill_read in not_given scope.Agent scope.None early_fill_run state run read
