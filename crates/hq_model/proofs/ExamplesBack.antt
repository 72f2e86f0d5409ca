-- A barrier-OR one of whose dependencies waits for it.
use Rattle.std.proofs.Common.{◌≡◌, ℕ, zero, suc, ◌<◌, ◌≤◌, ◌≢◌, List, [], ◌∷◌, refl, sym, ap, subst, arith, Some, None, slice_get, slice_index, All, AllPairs, cond}
use Rattle.std.proofs.lemmas.Bool.{ne_eqb}
use Rattle.std.proofs.lemmas.List.Elements.{All-nil, All-cons}
use Rattle.hq_model.specs.Job.{decrementers, Kind, packet, IsPacket, Earlier, Dependency, Decrements}
use Rattle.hq_model.specs.Job.Kind.{Work, BarrierAnd, BarrierOr}
use Rattle.hq_model.specs.Order.{Before, Branch, In, OrderList}
use Rattle.hq_model.specs.Order.Before.{by_bit, by_queue, by_and, by_or, through}
use Rattle.hq_model.specs.Order.Branch.{itself, after}
use Rattle.hq_model.specs.Examples.{either, back_branch}
use Rattle.hq_model.specs.Theorems.{Valid}
use Rattle.hq_model.specs.HoldsBack.{AlwaysBefore, NeedsOneOf, HoldsBack, FullOrderList}
use Rattle.hq_model.specs.HoldsBack.NeedsOneOf.{for_and, for_or}
use Rattle.hq_model.proofs.Places.{place_of_packets}
use Rattle.hq_model.proofs.Tested.{order_by_test, each_once_by_test, full_by_test}
use Rattle.hq_model.proofs.ExamplesFirst.{numbers_each_once, number_ahead, none_apart, work≢or}
use Rattle.hq_model.proofs.ExamplesMore.{some_same, none_some}
use Rattle.hq_model.proofs.ExamplesChained.{one_slot, some_some, null_some}
use Rattle.hq_model.proofs.ExamplesEither.{either_order}
use Rattle.hq_model.proofs.HeldBack.{held_back}
use Rattle.hq_model.proofs.Exact.{full_order_exact}

-- ---- its packets, queues and signals

work≢and : (kind : Kind) → kind ≡ Work → kind ≢ BarrierAnd
work≢and kind e f = grind arith

or≢and : (kind : Kind) → kind ≡ BarrierOr → kind ≢ BarrierAnd
or≢and kind e f = grind arith

and≢or : (kind : Kind) → kind ≡ BarrierAnd → kind ≢ BarrierOr
and≢or kind e f = grind arith

and_is : (r : ℕ) → (packet back_branch r).kind ≡ BarrierAnd → r ≡ 2
and_is zero k = absurd (work≢and Work refl k)
and_is (suc zero) k = absurd (or≢and BarrierOr refl k)
and_is (suc (suc zero)) k = refl
and_is (suc (suc (suc r))) k = absurd (work≢and Work refl k)

or_is : (r : ℕ) → (packet back_branch r).kind ≡ BarrierOr → r ≡ 1
or_is zero k = absurd (work≢or Work refl k)
or_is (suc zero) k = refl
or_is (suc (suc zero)) k = absurd (and≢or BarrierAnd refl k)
or_is (suc (suc (suc r))) k = absurd (work≢or Work refl k)

queue_is : (p : ℕ) → IsPacket back_branch p → (packet back_branch p).queue ≡ p
queue_is zero l = refl
queue_is (suc zero) l = refl
queue_is (suc (suc zero)) l = refl
queue_is (suc (suc (suc p))) l = absurd (omega (arith, l))

alone : (p r : ℕ) → Earlier back_branch p r → ⊥
alone p r f = omega (arith, f.ahead, f.is_packet, f.same_queue, queue_is p (omega (arith, f.ahead, f.is_packet)), queue_is r f.is_packet)

-- the two dependencies of the barrier-OR
two_slots : (P : ℕ → Type 0) → P 0 → P 1 → (slot s : ℕ) → slice_get (Some 0 ∷ Some 1 ∷ None ∷ None ∷ None ∷ []) slot ≡ Some (Some s) → P s
two_slots P a b zero s e = subst P (some_some 0 s e) a
two_slots P a b (suc zero) s e = subst P (some_some 1 s e) b
two_slots P a b (suc (suc zero)) s e = absurd (null_some s e)
two_slots P a b (suc (suc (suc zero))) s e = absurd (null_some s e)
two_slots P a b (suc (suc (suc (suc zero)))) s e = absurd (null_some s e)
two_slots P a b (suc (suc (suc (suc (suc slot))))) s e = absurd (none_some (Some s) e)

-- each packet, and the signal that it completes on
of_decrements : (P : ℕ → ℕ → Type 0) → P 0 0 → P 1 2 → P 2 1 → (d s : ℕ) → Decrements back_branch d s → P d s
of_decrements P a b c zero s f = subst (P 0) (some_same 0 s f.signal) a
of_decrements P a b c (suc zero) s f = subst (P 1) (some_same 2 s f.signal) b
of_decrements P a b c (suc (suc zero)) s f = subst (P 2) (some_same 1 s f.signal) c
of_decrements P a b c (suc (suc (suc d))) s f = absurd (omega (arith, f.is_packet))

low_signal : (p slot s : ℕ) → Dependency back_branch p slot s → s < 3
low_signal zero slot s w = absurd (none_some (Some s) w.signal)
low_signal (suc zero) slot s w = two_slots (λ t. t < 3) (omega arith) (omega arith) slot s w.signal
low_signal (suc (suc zero)) slot s w = omega (arith, one_slot 2 slot s w.signal)
low_signal (suc (suc (suc p))) slot s w = absurd (omega (arith, w.is_packet))

one_decrementer : (s : ℕ) → s < 3 → decrementers back_branch s ≡ slice_index back_branch.starts s
one_decrementer zero l = refl
one_decrementer (suc zero) l = refl
one_decrementer (suc (suc zero)) l = refl
one_decrementer (suc (suc (suc s))) l = absurd (omega arith)

at_most : (s : ℕ) → decrementers back_branch s ≤ slice_index back_branch.starts s
at_most zero = omega arith
at_most (suc zero) = omega arith
at_most (suc (suc zero)) = omega arith
at_most (suc (suc (suc s))) = omega (
  arith,
  ap {B = ℕ} (λ b. cond b 1 0) (ne_eqb 0 (suc (suc (suc s))) (λ e. omega arith)),
  ap {B = ℕ} (λ b. cond b 1 0) (ne_eqb 1 (suc (suc (suc s))) (λ e. omega arith)),
  ap {B = ℕ} (λ b. cond b 1 0) (ne_eqb 2 (suc (suc (suc s))) (λ e. omega arith)),
)

pub valid : Valid back_branch
valid = record {
  queues = λ p there. omega (arith, there, queue_is p there);
  agents = All-cons (λ a. a < 1) 0 (0 ∷ 0 ∷ []) (omega arith) (All-cons (λ a. a < 1) 0 (0 ∷ []) (omega arith) (All-cons (λ a. a < 1) 0 [] (omega arith) (All-nil (λ a. a < 1))));
  writes = λ p. inside p;
  writes_once = λ p. apart p;
  not_null = λ p there k. subst HasDependency (sym (or_is p k)) (0, 0, record { is_packet = omega arith; signal = refl });
  submissions = numbers_each_once back_branch;
  in_order = λ p r e. number_ahead back_branch p r e.ahead e.is_packet;
  sizes = refl;
  slots = All-cons (λ size. 0 < size) 4 (4 ∷ 4 ∷ []) (omega arith) (All-cons (λ size. 0 < size) 4 (4 ∷ []) (omega arith) (All-cons (λ size. 0 < size) 4 [] (omega arith) (All-nil (λ size. 0 < size))));
  balanced = record { enough = at_most; exact = λ p slot s w. one_decrementer s (low_signal p slot s w) };
}
  where
    HasDependency : ℕ → Type 0
    HasDependency p = (slot : ℕ) × (s : ℕ) × Dependency back_branch p slot s

    inside : (p : ℕ) → All (λ b. b < 0) (packet back_branch p).writes
    inside zero = All-nil (λ b. b < 0)
    inside (suc zero) = All-nil (λ b. b < 0)
    inside (suc (suc zero)) = All-nil (λ b. b < 0)
    inside (suc (suc (suc p))) = All-nil (λ b. b < 0)

    apart : (p : ℕ) → AllPairs (λ b c. b ≢ c) (packet back_branch p).writes
    apart zero = none_apart
    apart (suc zero) = none_apart
    apart (suc (suc zero)) = none_apart
    apart (suc (suc (suc p))) = none_apart

pub order : OrderList back_branch (0 ∷ 1 ∷ 2 ∷ [])
order = order_by_test back_branch (0 ∷ 1 ∷ 2 ∷ []) refl (each_once_by_test back_branch (0 ∷ 1 ∷ 2 ∷ []) refl refl refl) refl refl refl

-- ---- the first packet is complete before the barrier-OR begins

abbrev all_three : List ℕ
all_three = 0 ∷ 1 ∷ 2 ∷ []

needs : (x : ℕ) → In (1 ∷ 2 ∷ []) x → NeedsOneOf back_branch all_three x
needs zero i = absurd (omega (arith, i))
needs (suc zero) i = for_or (record { kind = refl; some = (0, 0, record { is_packet = omega arith; signal = refl }) }) (λ slot s w. two_slots HasOne first last slot s w.signal)
  where
    HasOne : ℕ → Type 0
    HasOne s = (d : ℕ) × Decrements back_branch d s × In all_three d

    first : HasOne 0
    first = (0, record { is_packet = omega arith; signal = refl }, omega arith)

    last : HasOne 1
    last = (2, record { is_packet = omega arith; signal = refl }, omega arith)
needs (suc (suc zero)) i = for_and 1 0 2 (record { kind = refl; dependency = record { is_packet = omega arith; signal = refl }; decrements = record { is_packet = omega arith; signal = refl } }) (omega arith)
needs (suc (suc (suc x))) i =
    absurd (omega (arith, place_of_packets (λ k. k < 3) (1 ∷ 2 ∷ []) (suc (suc (suc x))) (All-cons (λ k. k < 3) 1 (2 ∷ []) (omega arith) (All-cons (λ k. k < 3) 2 [] (omega arith) (All-nil (λ k. k < 3)))) i))

pub held : HoldsBack back_branch 0 1
held = record { set = 1 ∷ 2 ∷ []; member = omega arith; needs = needs }

pub always : AlwaysBefore back_branch 0 1
always = held_back back_branch 0 1 valid held

-- ---- but it isn't before that

and_alone : (p r slot s : ℕ) → (packet back_branch r).kind ≡ BarrierAnd → Dependency back_branch r slot s → Decrements back_branch p s → (p ≡ 1) × (r ≡ 2)
and_alone p r slot s k w f = (
  of_decrements (λ d t. t ≡ 2 → d ≡ 1) (λ e. absurd (omega (arith, e))) (λ e. refl) (λ e. absurd (omega (arith, e))) p s f
      (sym (one_slot 2 slot s (subst (λ x. slice_get (packet back_branch x).deps slot ≡ Some (Some s)) (and_is r k) w.signal))),
  and_is r k,
)

of_first : (r : ℕ) → (packet back_branch r).kind ≡ BarrierOr → Dependency back_branch r 0 0
of_first r k = subst (λ x. Dependency back_branch x 0 0) (sym (or_is r k)) (record { is_packet = omega arith; signal = refl })

of_second : (r : ℕ) → (packet back_branch r).kind ≡ BarrierOr → Dependency back_branch r 1 1
of_second r k = subst (λ x. Dependency back_branch x 1 1) (sym (or_is r k)) (record { is_packet = omega arith; signal = refl })

mutual
  -- only the barrier-OR comes before another
  only : {p r : ℕ} → Before back_branch p r → (p ≡ 1) × (r ≡ 2)
  only (by_bit {p = p} {r = r} {j = j} by) = absurd (alone p j by.earlier)
  only (by_queue {p = p} {r = r} by) = absurd (alone p r by.earlier)
  only (by_and {p = p} {r = r} {slot = slot} {s = s} by) = and_alone p r slot s by.kind by.dependency by.decrements
  only (by_or {p = p} {r = r} any each) = absurd (not_first (each 1 1 (of_second r any.kind)) refl (first_branch (each 0 0 (of_first r any.kind)) refl))
  only (through {p = p} {m = m} {r = r} f g) = absurd (omega (arith, (only f).1, (only g).0))

  first_branch : {p s : ℕ} → Branch back_branch p s → s ≡ 0 → p ≡ 0
  first_branch (itself {p = p} {s = s} f) e = of_decrements (λ d t. t ≡ 0 → d ≡ 0) (λ z. refl) (λ z. absurd (omega (arith, z))) (λ z. absurd (omega (arith, z))) p s f e
  first_branch (after {p = p} {d = d} {s = s} f g) e =
      let is : d ≡ 0 = of_decrements (λ x t. t ≡ 0 → x ≡ 0) (λ z. refl) (λ z. absurd (omega (arith, z))) (λ z. absurd (omega (arith, z))) d s f e in
      absurd (omega (arith, is, (only g).1))

  not_first : {p s : ℕ} → Branch back_branch p s → s ≡ 1 → p ≢ 0
  not_first (itself {p = p} {s = s} f) e z =
      let is : p ≡ 2 = of_decrements (λ x t. t ≡ 1 → x ≡ 2) (λ z. absurd (omega (arith, z))) (λ z. absurd (omega (arith, z))) (λ z. refl) p s f e in
      omega (arith, is, z)
  not_first (after {p = p} {d = d} {s = s} f g) e z = omega (arith, z, (only g).0)

pub missed : Before back_branch 0 1 → ⊥
missed b = omega (arith, (only b).1)

pub not_full : (list : List ℕ) → FullOrderList back_branch list → ⊥
not_full list full = missed ((full_order_exact back_branch list valid refl full 0 1 (omega arith) (omega arith) (λ e. omega arith)).1 always)

pub either_full : FullOrderList either (0 ∷ 1 ∷ 2 ∷ 3 ∷ 4 ∷ [])
either_full = full_by_test either (0 ∷ 1 ∷ 2 ∷ 3 ∷ 4 ∷ []) either_order refl
