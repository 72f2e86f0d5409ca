-- From the set of what has come to the list, and what the list leaves.
use Rattle.std.proofs.Common.{◌≡◌, ℕ, zero, suc, ◌<◌, inl, inr, Bool, true, false, not, cond, ◌||◌, ◌==◌, IsTrue, List, [], ◌∷◌, ◌++◌, length, filter, refl, sym, ◌∙◌, ap, subst, arith, replicate, AllPairs}
use Rattle.std.proofs.lemmas.Bool.{eq-eqb, eqb-true, ltb-true, lt-ltb}
use Rattle.std.proofs.lemmas.List.Elements.{All-filter, filter-append}
use Rattle.std.proofs.lemmas.List.{append-nil}
use Rattle.std.proofs.lemmas.List.Quantifiers.{all_pairs_push}
use Rattle.hq_model.specs.Job.{Job, Earlier}
use Rattle.hq_model.specs.Order.{place, In, OrderList}
use Rattle.hq_model.specs.Machine.{listed}
use Rattle.hq_model.specs.Schedule.{MayCome, Scheduled, Settled, stands_in, left_of}
use Rattle.hq_model.specs.Schedule.Scheduled.{nothing, and_then}
use Rattle.hq_model.proofs.Places.{in_pushed, in_more, in_before_push, numbers_below}
use Rattle.hq_model.proofs.Schedule.{schedules_settle}
use Rattle.hq_model.proofs.Orders.{none_where_stuck}
use Rattle.hq_bits.specs.Bits.{has}
use Rattle.hq_schedule.specs.Placing.{HasAhead, HasCome, MayFollow, AreStuck}
use Rattle.hq_schedule.specs.Placing.StaysBehind.{by_queue, by_slot, by_and}
use Rattle.hq_schedule.specs.Least.{LeastFirst}
use Rattle.hq_schedule.specs.Least.LeastFirst.{begins, goes_on}
use Rattle.hq_rows.proofs.Filling.{has_nothing, or_either, or_left, or_right}

pub may_come : (job : Job) (come list : List ℕ) (p : ℕ) → HasCome come list → MayFollow job come p → MayCome job list p
may_come job come list p same may = record {
  is_packet = may.is_packet;
  new = λ i. may.new ((same.same p).1 i);
  queues = λ e q. (same.same e).0 (may.needs e (by_queue q));
  slots = λ e f. (same.same e).0 (may.needs e (by_slot f));
  ands = λ slot s d k w f. (same.same d).0 (may.needs d (by_and k (slot, s, w, f)));
  ors = λ k. let (slot, s, w, all) = may.ors k in (slot, s, w, λ d f. (same.same d).0 (all d f));
}

pub may_follow : (job : Job) (come list : List ℕ) (p : ℕ) → HasCome come list → MayCome job list p → MayFollow job come p
may_follow job come list p same may = record {
  is_packet = may.is_packet;
  new = λ h. may.new ((same.same p).0 h);
  needs = λ e n. (same.same e).1 (elim n [
    | by_queue q ↦ may.queues e q
    | by_slot f ↦ may.slots e f
    | by_and k d ↦ let (slot, s, w, f) = d in may.ands slot s e k w f
  ]);
  ors = λ k. let (slot, s, w, all) = may.ors k in (slot, s, w, λ d f. (same.same d).1 (all d f));
}

pub scheduled : (job : Job) (list : List ℕ) → LeastFirst job list → Scheduled job list
scheduled job [] begins = nothing
scheduled job list (goes_on before may none) = and_then (scheduled job _ before) may

pub come_none : (come : List ℕ) (n : ℕ) → come ≡ replicate n 0 → HasCome come []
come_none come n e = record { same = λ p. (λ h. let no_bit : has come p ≡ false = has_nothing come n p e in let never : ⊥ = cc in absurd never, λ i. absurd (omega arith)) }

pub come_push : (come new list : List ℕ) (p : ℕ) → HasCome come list → ((e : ℕ) → has new e ≡ (has come e || e == p)) → HasCome new (list ++ p ∷ [])
come_push come new list p same grows = record {
  same = λ e. (
    λ h. elim (or_either (has come e) (e == p) (sym (grows e) ∙ h)) [
      | inl before ↦ in_more list (p ∷ []) e ((same.same e).0 before)
      | inr this ↦ subst (λ q. In (list ++ p ∷ []) q) (sym (eqb-true e p this)) (in_pushed list p)
    ],
    λ i. grows e ∙ elim (in_before_push list p e i) [
      | inl before ↦ or_left (has come e) (e == p) ((same.same e).1 before)
      | inr this ↦ or_right (has come e) (e == p) (eq-eqb e p this)
    ],
  );
}

pub ahead_none : (job : Job) (come : List ℕ) (n : ℕ) → come ≡ replicate n 0 → HasAhead job come
ahead_none job come n e = λ b r before h. let no_bit : has come r ≡ false = has_nothing come n r e in let never : ⊥ = cc in absurd never

pub ahead_push : (job : Job) (come new : List ℕ) (p : ℕ) → HasAhead job come → MayFollow job come p → ((e : ℕ) → has new e ≡ (has come e || e == p)) → HasAhead job new
ahead_push job come new p ahead may grows = λ e r before h. elim (or_either (has come r) (r == p) (sym (grows r) ∙ h)) [
  | inl old ↦ grows e ∙ or_left (has come e) (e == p) (ahead e r before old)
  | inr this ↦ grows e ∙ or_left (has come e) (e == p) (may.needs e (by_queue (subst (λ q. Earlier job e q) (eqb-true r p this) before)))
]

bool_same : (a b : Bool) → (IsTrue a → IsTrue b) → (IsTrue b → IsTrue a) → a ≡ b
bool_same true true f g = refl
bool_same false false f g = refl
bool_same true false f g = sym (f refl)
bool_same false true f g = g refl

pub left_same : (job : Job) (come list : List ℕ) → HasCome come list → filter (λ p. not (has come p)) (listed (length job.packets) (λ p. p)) ≡ left_of job list
left_same job come list same =
    let at : (p : ℕ) → not (has come p) ≡ not (stands_in list p) = λ p. ap not (bool_same (has come p) (stands_in list p) (λ h. lt-ltb (place list p) (length list) ((same.same p).0 h)) (λ h. (same.same p).1 (ltb-true (place list p) (length list) h))) in
    let tests : (λ p. not (has come p)) ≡ (λ p. not (stands_in list p)) = λ i p. at p i in
    ap (λ t. filter t (listed (length job.packets) (λ p. p))) tests

pairs_rising : (test : ℕ → Bool) (n : ℕ) → AllPairs (λ p r. p < r) (filter test (listed n (λ p. p)))
pairs_rising test zero = λ i j d l h. absurd (omega arith)
pairs_rising test (suc n) = rw (filter-append test (listed n (λ p. p)) (n ∷ [])) (go (pairs_rising test n) (test n))
  where
    go : AllPairs (λ p r. p < r) (filter test (listed n (λ p. p))) → (b : Bool) → AllPairs (λ p r. p < r) (filter test (listed n (λ p. p)) ++ cond b (n ∷ []) [])
    go before true = all_pairs_push (λ p r. p < r) (filter test (listed n (λ p. p))) n before (λ k d l. All-filter test (λ p. p < n) (listed n (λ p. p)) (numbers_below n n (omega arith)) k d l)
    go before false = rw append-nil before

pub stuck_left : (job : Job) (list left : List ℕ) → Scheduled job list → ((p : ℕ) → MayCome job list p → ⊥) → left ≡ left_of job list → 0 < length left → AreStuck job left
stuck_left job list left scheduled none is some =
    let settled : Settled job list = schedules_settle job list scheduled none in
    rw is (record {
      some = let l : 0 < length (left_of job list) = rw is at some in l;
      stuck = λ p. (λ i. (left_of job list, settled.stuck (rw is at some), i), λ s. settled.all p s);
      rising = λ i j l h. pairs_rising (λ p. not (stands_in list p)) (length job.packets) i j 0 l h;
      no_order = λ order o. none_where_stuck job order (left_of job list) o (settled.stuck (rw is at some));
    })

pub ordered : (job : Job) (list left : List ℕ) → Scheduled job list → ((p : ℕ) → MayCome job list p → ⊥) → left ≡ left_of job list → length left ≡ 0 → OrderList job list
ordered job list left scheduled none is empty = (schedules_settle job list scheduled none).order (ap length (sym is) ∙ empty)
