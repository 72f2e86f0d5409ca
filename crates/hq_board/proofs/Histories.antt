-- What a queue's part of a history knows of its packets, and what a whole history keeps.
use Rattle.std.proofs.Common.{◌≡◌, ◌≢◌, ℕ, zero, suc, ◌+◌, ◌-◌, ◌*◌, ◌<◌, ◌≤◌, ◌&&◌, inl, inr, Bool, true, cond, List, [], ◌∷◌, length, refl, sym, ◌∙◌, ap, subst, arith, eqb, Option, Some, None}
use Rattle.std.proofs.lemmas.Bool.{cases_eq, cond-true, cond-false, eq-eqb, ne_eqb}
use Rattle.hq_model.specs.Job.{Job, packet, IsPacket, completes_on}
use Rattle.hq_model.specs.Machine.{State, Phase, put, is_launched}
use Rattle.hq_model.specs.Machine.Phase.{Waiting, InQueue, Launched, Active, Complete}
use Rattle.hq_model.specs.Theorems.{Balanced}
use Rattle.hq_model.proofs.Sums.{sum_to, sum_one, sum_le, put_same, put_other, put2_other}
use Rattle.hq_model.proofs.Kept.{KeptBy, kept_start, kept_launch, kept_observe, kept_enter, kept_complete, signal_is, count_at, is_complete}
use Rattle.hq_board.specs.declared.entry.Entry.{Entry}
use Rattle.hq_board.specs.declared.entry.Entry.TheVariants.{DidLaunch, DidObserve, DidEnter, DidComplete, Looked}
use Rattle.hq_board.specs.History.{packet_in, queue_of, next, after, May, MayLook, Sees, Legal, Right, part, own_step, without_signal}
use Rattle.hq_board.specs.Rule.{own_steps}

-- ---- parts

pub part_here : (job : Job) (q : ℕ) (x : Entry) (m : List Entry) → queue_of job x ≡ q → part job q (x ∷ m) ≡ x ∷ part job q m
part_here job q x m e = cond-true (eqb (queue_of job x) q) (x ∷ part job q m) (part job q m) (eq-eqb (queue_of job x) q e)

pub part_else : (job : Job) (q : ℕ) (x : Entry) (m : List Entry) → queue_of job x ≢ q → part job q (x ∷ m) ≡ part job q m
part_else job q x m e = cond-false (eqb (queue_of job x) q) (x ∷ part job q m) (part job q m) (ne_eqb (queue_of job x) q e)

-- ---- one entry changes its own packet alone

pub next_phase : (job : Job) (a b : State) (x : Entry) (p : ℕ) → a.phase p ≡ b.phase p → (next job a x).phase p ≡ (next job b x).phase p
next_phase job a b (DidLaunch r) p e = ap (λ f. cond (eqb p r) Launched f) e
next_phase job a b (DidObserve r slot) p e = e
next_phase job a b (DidEnter r) p e = ap (λ f. cond (eqb p r) Active f) e
next_phase job a b (DidComplete r) p e = ap (λ f. cond (eqb p r) Complete f) e
next_phase job a b (Looked r slot value) p e = e

pub next_observed : (job : Job) (a b : State) (x : Entry) (p slot : ℕ) → a.observed p slot ≡ b.observed p slot → (next job a x).observed p slot ≡ (next job b x).observed p slot
next_observed job a b (DidLaunch r) p slot e = e
next_observed job a b (DidObserve r place) p slot e = ap (λ f. cond (eqb p r && eqb slot place) true f) e
next_observed job a b (DidEnter r) p slot e = e
next_observed job a b (DidComplete r) p slot e = e
next_observed job a b (Looked r place value) p slot e = e

pub else_phase : (job : Job) (a : State) (x : Entry) (p : ℕ) → p ≢ packet_in x → (next job a x).phase p ≡ a.phase p
else_phase job a (DidLaunch r) p n = put_other a.phase r Launched p n
else_phase job a (DidObserve r slot) p n = refl
else_phase job a (DidEnter r) p n = put_other a.phase r Active p n
else_phase job a (DidComplete r) p n = put_other a.phase r Complete p n
else_phase job a (Looked r slot value) p n = refl

pub else_observed : (job : Job) (a : State) (x : Entry) (p slot : ℕ) → p ≢ packet_in x → (next job a x).observed p slot ≡ a.observed p slot
else_observed job a (DidLaunch r) p slot n = refl
else_observed job a (DidObserve r place) p slot n = put2_other a.observed r place true p slot (λ e _. n e)
else_observed job a (DidEnter r) p slot n = refl
else_observed job a (DidComplete r) p slot n = refl
else_observed job a (Looked r place value) p slot n = refl

-- ---- a queue's part knows its packets

other_packet : (job : Job) (q : ℕ) (x : Entry) (p : ℕ) → (packet job p).queue ≡ q → queue_of job x ≢ q → p ≢ packet_in x
other_packet job q x p e n is = n (sym (ap (λ k. (packet job k).queue) is) ∙ e)

pub own_phase : (job : Job) (q : ℕ) (m : List Entry) (p : ℕ) → (packet job p).queue ≡ q → (after job (part job q m)).phase p ≡ (after job m).phase p
own_phase job q [] p e = refl
own_phase job q (x ∷ m) p e = elim (cases_eq (queue_of job x) q) [
  | inl is ↦ ap (λ l. (after job l).phase p) (part_here job q x m is) ∙ next_phase job (after job (part job q m)) (after job m) x p (own_phase job q m p e)
  | inr n ↦ ap (λ l. (after job l).phase p) (part_else job q x m n) ∙ own_phase job q m p e ∙ sym (else_phase job (after job m) x p (other_packet job q x p e n))
]

pub own_observed : (job : Job) (q : ℕ) (m : List Entry) (p slot : ℕ) → (packet job p).queue ≡ q → (after job (part job q m)).observed p slot ≡ (after job m).observed p slot
own_observed job q [] p slot e = refl
own_observed job q (x ∷ m) p slot e = elim (cases_eq (queue_of job x) q) [
  | inl is ↦ ap (λ l. (after job l).observed p slot) (part_here job q x m is) ∙ next_observed job (after job (part job q m)) (after job m) x p slot (own_observed job q m p slot e)
  | inr n ↦ ap (λ l. (after job l).observed p slot) (part_else job q x m n) ∙ own_observed job q m p slot e ∙ sym (else_observed job (after job m) x p slot (other_packet job q x p e n))
]

-- ---- what may come next depends on the queue's own packets

pub record Agree (job : Job) (q : ℕ) (a b : State) : Type 0 where
  pub phases : (p : ℕ) → (packet job p).queue ≡ q → a.phase p ≡ b.phase p
  pub slots : (p slot : ℕ) → (packet job p).queue ≡ q → a.observed p slot ≡ b.observed p slot

pub agree_own : (job : Job) (q : ℕ) (m : List Entry) → Agree job q (after job (part job q m)) (after job m)
agree_own job q m = record { phases = λ p e. own_phase job q m p e; slots = λ p slot e. own_observed job q m p slot e }

pub agree_back : (job : Job) (q : ℕ) (a b : State) → Agree job q a b → Agree job q b a
agree_back job q a b g = record { phases = λ p e. sym (g.phases p e); slots = λ p slot e. sym (g.slots p slot e) }

same_look : (job : Job) (a b : State) (p slot : ℕ) → Agree job (packet job p).queue a b → MayLook job a p slot → MayLook job b p slot
same_look job a b p slot g may = record {
  signal = may.signal;
  dependency = may.dependency;
  unobserved = record {
    barrier = may.unobserved.barrier;
    launched = sym (g.phases p refl) ∙ may.unobserved.launched;
    fresh = sym (g.slots p slot refl) ∙ may.unobserved.fresh;
  };
}

pub same_may : (job : Job) (a b : State) (x : Entry) → Agree job (queue_of job x) a b → May job a x → May job b x
same_may job a b (DidLaunch p) g may = record {
  is_packet = may.is_packet;
  queue = may.queue;
  waits = sym (g.phases p refl) ∙ may.waits;
  next = λ e h. subst (λ f. is_launched f ≡ true) (g.phases e h.same_queue) (may.next e h);
  bit = λ b e h. sym (g.phases e h.same_queue) ∙ may.bit b e h;
  barriers = λ e h b. sym (g.phases e h.same_queue) ∙ may.barriers e h b;
}
same_may job a b (DidObserve p slot) g may = same_look job a b p slot g may
same_may job a b (DidEnter p) g may = (
  may.0,
  sym (g.phases p refl) ∙ may.1,
  record {
    each = λ k slot s d. sym (g.slots p slot refl) ∙ may.2.each k slot s d;
    one = λ k. let (slot, s, d, o) = may.2.one k in (slot, s, d, sym (g.slots p slot refl) ∙ o);
  },
)
same_may job a b (DidComplete p) g may = (may.0, sym (g.phases p refl) ∙ may.1)
same_may job a b (Looked p slot value) g may = same_look job a b p slot g may

-- each queue's part is legal by itself
pub legal_part : (job : Job) (q : ℕ) (m : List Entry) → Legal job m → Legal job (part job q m)
legal_part job q [] l = tt
legal_part job q (x ∷ m) l = elim (cases_eq (queue_of job x) q) [
  | inl is ↦ subst (Legal job) (sym (part_here job q x m is)) (
    same_may job (after job m) (after job (part job q m)) x (subst (λ k. Agree job k (after job m) (after job (part job q m))) (sym is) (agree_back job q (after job (part job q m)) (after job m) (agree_own job q m))) l.0,
    legal_part job q m l.1,
  )
  | inr n ↦ subst (Legal job) (sym (part_else job q x m n)) (legal_part job q m l.1)
]

-- ---- what a whole history keeps

pub kept_next : (job : Job) (a : State) (x : Entry) → Balanced job → KeptBy job a → May job a x → Sees job a x → KeptBy job (next job a x)
kept_next job a (DidLaunch p) valid k may sees = kept_launch job a (packet job p).queue p k may
kept_next job a (DidObserve p slot) valid k may sees = kept_observe job a p slot may.signal valid k may.dependency (sees may.signal may.dependency)
kept_next job a (DidEnter p) valid k may sees = kept_enter job a p k may.1 may.2
kept_next job a (DidComplete p) valid k may sees = kept_complete job a p valid k may.0 may.1
kept_next job a (Looked p slot value) valid k may sees = k

pub kept_after : (job : Job) (m : List Entry) → Balanced job → Legal job m → Right job m → KeptBy job (after job m)
kept_after job [] valid l r = kept_start job
kept_after job (x ∷ m) valid l r = kept_next job (after job m) x valid (kept_after job m valid l.1 r.1) l.0 r.0

-- ---- a queue's word is small

abbrev pub rank : Phase → ℕ
rank Waiting = 0
rank InQueue = 0
rank Launched = 1
rank Active = 2
rank Complete = 3

below : (f : Phase) → rank f ≤ 3
below Waiting = omega arith
below InQueue = omega arith
below Launched = omega arith
below Active = omega arith
below Complete = omega arith

abbrev pub ranks : Job → (ℕ → Phase) → ℕ
ranks job f = sum_to (length job.packets) (λ p. rank (f p))

rise : (job : Job) (f : ℕ → Phase) (p : ℕ) (new : Phase) → IsPacket job p → ranks job f + rank new ≡ ranks job (put f p new) + rank (f p)
rise job f p new there =
    ap (λ z. ranks job f + rank z) (sym (put_same f p new p refl))
    ∙ sum_one (length job.packets) (λ k. rank (f k)) (λ k. rank (put f p new k)) p there (λ j l d. ap rank (sym (put_other f p new j d)))

threes : (n : ℕ) → sum_to n (λ p. 3) ≡ 3 * n
threes zero = refl
threes (suc n) = omega (arith, threes n)

one_less : (o : Option ℕ) → without_signal o ≤ 1
one_less None = omega arith
one_less (Some s) = omega arith

pub steps_below : (job : Job) (log : List Entry) → Legal job log → own_steps job log ≤ ranks job (after job log).phase
steps_below job [] l = omega arith
steps_below job (DidLaunch p ∷ log) l = let a = after job log in omega (arith, steps_below job log l.1, rise job a.phase p Launched l.0.is_packet, ap rank l.0.waits)
steps_below job (DidObserve p slot ∷ log) l = omega (arith, steps_below job log l.1)
steps_below job (DidEnter p ∷ log) l = let a = after job log in omega (arith, steps_below job log l.1, rise job a.phase p Active l.0.0, ap rank l.0.1)
steps_below job (DidComplete p ∷ log) l = let a = after job log in omega (arith, steps_below job log l.1, rise job a.phase p Complete l.0.0, ap rank l.0.1, one_less (packet job p).done)
steps_below job (Looked p slot value ∷ log) l = omega (arith, steps_below job log l.1)

pub steps_few : (job : Job) (log : List Entry) → Legal job log → own_steps job log ≤ 3 * length job.packets
steps_few job log l = omega (arith, steps_below job log l, threes (length job.packets), sum_le (length job.packets) (λ p. rank ((after job log).phase p)) (λ p. 3) (λ p _. below ((after job log).phase p)))

-- where an entry adds 1, its queue's word stays below 3 for each packet
pub steps_room : (job : Job) (log : List Entry) (x : Entry) → Legal job (x ∷ log) → own_step job x ≡ 1 → own_steps job log + 1 ≤ 3 * length job.packets
steps_room job log x l one = omega (arith, steps_few job (x ∷ log) l, one)

-- ---- a signal that is about to go down is above 0

abbrev counted : Bool → Phase → ℕ
counted b f = cond b (cond (is_complete f) 1 0) 0

pub signal_above : (job : Job) (a : State) (p s : ℕ) → Balanced job → KeptBy job a → IsPacket job p → a.phase p ≡ Active → (packet job p).done ≡ Some s → 0 < a.signal s
signal_above job a p s valid k there is done =
    let new = kept_complete job a p valid k there is in
    omega (
      arith,
      k.signals s,
      new.signals s,
      cond-true (completes_on s (packet job p)) (a.signal s - 1) (a.signal s) (signal_is s (packet job p).done done),
      sum_one (length job.packets) (count_at job a.phase s) (count_at job (put a.phase p Complete) s) p there
          (λ j l d. ap (counted (completes_on s (packet job j))) (sym (put_other a.phase p Complete j d))),
      ap (counted (completes_on s (packet job p))) (put_same a.phase p Complete p refl),
      ap (counted (completes_on s (packet job p))) is,
      ap (λ b. counted b Active) (signal_is s (packet job p).done done),
      ap (λ b. counted b Complete) (signal_is s (packet job p).done done),
    )
