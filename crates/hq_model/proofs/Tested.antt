-- Order lists of jobs that are written out, by a test that computes.
use Rattle.std.proofs.Common.{◌≡◌, ℕ, zero, suc, ◌<◌, ◌≢◌, inl, inr, List, [], ◌∷◌, length, refl, sym, ◌∙◌, ap, arith, Bool, true, false, cond, eqb, ltb, ◌&&◌, Option, Some, None, slice_get, All, AllPairs}
use Rattle.std.proofs.lemmas.Bool.{cases_eq, true≢false, eq-eqb, ltb-true}
use Rattle.std.proofs.lemmas.List.Elements.{All-nil, All-cons}
use Rattle.std.proofs.lemmas.List.Kept.{AllPairs-cons}
use Rattle.hq_model.specs.Job.{Job, Kind, packet, IsPacket, Earlier, Decrements, completes_on}
use Rattle.hq_model.specs.Job.Kind.{BarrierAnd, BarrierOr}
use Rattle.hq_model.specs.Order.{place, Ahead, EachOnce, OrderList}
use Rattle.hq_model.specs.HoldsBack.{FullOrderList}
use Rattle.hq_model.proofs.Kept.{signal_is}

-- ---- tests

abbrev pub implies : Bool → Bool → Bool
implies true c = c
implies false c = true

abbrev pub all_below : ℕ → (ℕ → Bool) → Bool
all_below zero t = true
all_below (suc n) t = t n && all_below n t

-- t of the signal of each slot that isn't null, and of some
abbrev pub all_slots : List (Option ℕ) → (ℕ → Bool) → Bool
all_slots [] t = true
all_slots (None ∷ deps) t = all_slots deps t
all_slots (Some s ∷ deps) t = t s && all_slots deps t

abbrev pub some_slot : List (Option ℕ) → (ℕ → Bool) → Bool
some_slot [] t = false
some_slot (None ∷ deps) t = some_slot deps t
some_slot (Some s ∷ deps) t = cond (t s) true (some_slot deps t)

abbrev pub all_in : List ℕ → (ℕ → Bool) → Bool
all_in [] t = true
all_in (x ∷ xs) t = t x && all_in xs t

abbrev pub distinct : List ℕ → Bool
distinct [] = true
distinct (x ∷ xs) = all_in xs (λ y. cond (eqb x y) false true) && distinct xs

first_of_two : (a b : Bool) → (a && b) ≡ true → a ≡ true
first_of_two true b e = refl
first_of_two false b e = e

second_of_two : (a b : Bool) → (a && b) ≡ true → b ≡ true
second_of_two true b e = e
second_of_two false b e = absurd (true≢false (sym e))

implied : (a b : Bool) → implies a b ≡ true → a ≡ true → b ≡ true
implied true b e f = e
implied false b e f = absurd (true≢false (sym f))

below_at : (n : ℕ) (t : ℕ → Bool) → all_below n t ≡ true → (k : ℕ) → k < n → t k ≡ true
below_at zero t e k l = absurd (omega arith)
below_at (suc n) t e k l = elim (cases_eq k n) [
  | inl is ↦ ap t is ∙ first_of_two (t n) (all_below n t) e
  | inr d ↦ below_at n t (second_of_two (t n) (all_below n t) e) k (omega arith)
]

slots_at : (deps : List (Option ℕ)) (t : ℕ → Bool) → all_slots deps t ≡ true → (slot s : ℕ) → slice_get deps slot ≡ Some (Some s) → t s ≡ true
slots_at [] t e slot s is = absurd (none_some (Some s) is)
  where
    none_some : {X : Type 0} (x : X) → None ≡ Some x → ⊥
    none_some x e = cc
slots_at (None ∷ deps) t e zero s is = absurd (null_some s is)
  where
    null_some : (s : ℕ) → ◌≡◌ {A = Option (Option ℕ)} (Some None) (Some (Some s)) → ⊥
    null_some s e = cc
slots_at (None ∷ deps) t e (suc slot) s is = slots_at deps t e slot s is
slots_at (Some u ∷ deps) t e zero s is = ap t (sym (some_some u s is)) ∙ first_of_two (t u) (all_slots deps t) e
  where
    some_some : (x y : ℕ) → ◌≡◌ {A = Option (Option ℕ)} (Some (Some x)) (Some (Some y)) → x ≡ y
    some_some x y e = cc
slots_at (Some u ∷ deps) t e (suc slot) s is = slots_at deps t (second_of_two (t u) (all_slots deps t) e) slot s is

slot_of : (deps : List (Option ℕ)) (t : ℕ → Bool) → some_slot deps t ≡ true → (slot : ℕ) × (s : ℕ) × (slice_get deps slot ≡ Some (Some s)) × (t s ≡ true)
slot_of [] t e = absurd (true≢false (sym e))
slot_of (None ∷ deps) t e = let (slot, s, is, h) = slot_of deps t e in (suc slot, s, is, h)
slot_of (Some u ∷ deps) t e = go (t u) refl e (λ h. slot_of deps t h)
  where
    go : (b : Bool) → t u ≡ b → cond b true (some_slot deps t) ≡ true → (some_slot deps t ≡ true → (slot : ℕ) × (s : ℕ) × (slice_get deps slot ≡ Some (Some s)) × (t s ≡ true))
        → (slot : ℕ) × (s : ℕ) × (slice_get (Some u ∷ deps) slot ≡ Some (Some s)) × (t s ≡ true)
    go true is h later = (0, u, refl, is)
    go false is h later = let (slot, s, there, holds) = later h in (suc slot, s, there, holds)

all_of : (xs : List ℕ) (t : ℕ → Bool) (P : ℕ → Type 0) → all_in xs t ≡ true → ((x : ℕ) → t x ≡ true → P x) → All P xs
all_of [] t P e h = All-nil P
all_of (x ∷ xs) t P e h = All-cons P x xs (h x (first_of_two (t x) (all_in xs t) e)) (all_of xs t P (second_of_two (t x) (all_in xs t) e) h)

distinct_pairs : (xs : List ℕ) → distinct xs ≡ true → AllPairs (λ p r. p ≢ r) xs
distinct_pairs [] e = λ i j k m within. absurd (omega arith)
distinct_pairs (x ∷ xs) e =
    AllPairs-cons (λ p r. p ≢ r) x xs
    (all_of xs (λ y. cond (eqb x y) false true) (λ y. x ≢ y) (first_of_two (all_in xs (λ y. cond (eqb x y) false true)) (distinct xs) e) (λ y h is. true≢false (sym h ∙ ap (λ b. cond b false true) (eq-eqb x y is))))
    (distinct_pairs xs (second_of_two (all_in xs (λ y. cond (eqb x y) false true)) (distinct xs) e))

-- ---- the test of an order list

abbrev pub is_ahead : List ℕ → ℕ → ℕ → Bool
is_ahead list p r = ltb (place list p) (place list r)

abbrev pub is_and : Kind → Bool
is_and BarrierAnd = true
is_and _ = false

abbrev pub is_or : Kind → Bool
is_or BarrierOr = true
is_or _ = false

abbrev pub all_decrementers : Job → List ℕ → ℕ → ℕ → Bool
all_decrementers job list r s = all_below (length job.packets) (λ d. implies (completes_on s (packet job d)) (is_ahead list d r))

abbrev pub keeps_queues : Job → List ℕ → Bool
keeps_queues job list = all_below (length job.packets) (λ r. all_below r (λ p. implies (eqb (packet job p).queue (packet job r).queue) (is_ahead list p r)))

abbrev pub keeps_ands : Job → List ℕ → Bool
keeps_ands job list = all_below (length job.packets) (λ r. implies (is_and (packet job r).kind) (all_slots (packet job r).deps (all_decrementers job list r)))

abbrev pub keeps_ors : Job → List ℕ → Bool
keeps_ors job list = all_below (length job.packets) (λ r. implies (is_or (packet job r).kind) (some_slot (packet job r).deps (all_decrementers job list r)))

abbrev pub keeps_branches : Job → List ℕ → Bool
keeps_branches job list = all_below (length job.packets) (λ r. implies (is_or (packet job r).kind) (all_slots (packet job r).deps (all_decrementers job list r)))

module _ (job : Job) (list : List ℕ) where
  decrementer_ahead : (r s : ℕ) → all_decrementers job list r s ≡ true → (d : ℕ) → Decrements job d s → Ahead list d r
  decrementer_ahead r s e d f =
      ltb-true (place list d) (place list r)
      (implied (completes_on s (packet job d)) (is_ahead list d r)
      (below_at (length job.packets) (λ x. implies (completes_on s (packet job x)) (is_ahead list x r)) e d f.is_packet)
      (signal_is s (packet job d).done f.signal))

  pub each_once_by_test : all_in list (λ p. ltb p (length job.packets)) ≡ true → distinct list ≡ true → all_below (length job.packets) (λ p. ltb (place list p) (length list)) ≡ true → EachOnce job list
  each_once_by_test a b c = record {
    packets = all_of list (λ p. ltb p (length job.packets)) (IsPacket job) a (λ p h. ltb-true p (length job.packets) h);
    once = distinct_pairs list b;
    all = λ p there. ltb-true (place list p) (length list) (below_at (length job.packets) (λ x. ltb (place list x) (length list)) c p there);
  }

  queues_by_test : keeps_queues job list ≡ true → (p r : ℕ) → Earlier job p r → Ahead list p r
  queues_by_test e p r f =
      ltb-true (place list p) (place list r)
      (implied (eqb (packet job p).queue (packet job r).queue) (is_ahead list p r)
      (below_at r (λ x. implies (eqb (packet job x).queue (packet job r).queue) (is_ahead list x r))
      (below_at (length job.packets) (λ y. all_below y (λ x. implies (eqb (packet job x).queue (packet job y).queue) (is_ahead list x y))) e r f.is_packet) p f.ahead)
      (eq-eqb (packet job p).queue (packet job r).queue f.same_queue))

  -- where queues are no rings
  pub order_by_test : job.rings ≡ false → EachOnce job list → keeps_queues job list ≡ true → keeps_ands job list ≡ true → keeps_ors job list ≡ true → OrderList job list
  order_by_test plain once queues ands ors = record {
    each_once = once;
    queues = queues_by_test queues;
    slots = λ p r f. absurd (true≢false (sym f.frees.rings ∙ plain));
    ands = λ r slot s d k w f.
        decrementer_ahead r s
        (slots_at (packet job r).deps (all_decrementers job list r)
        (implied (is_and (packet job r).kind) (all_slots (packet job r).deps (all_decrementers job list r))
        (below_at (length job.packets) (λ x. implies (is_and (packet job x).kind) (all_slots (packet job x).deps (all_decrementers job list x))) ands r w.is_packet) (ap is_and k))
        slot s w.signal) d f;
    ors = λ r there k.
        let (slot, s, is, h) =
        slot_of (packet job r).deps (all_decrementers job list r)
        (implied (is_or (packet job r).kind) (some_slot (packet job r).deps (all_decrementers job list r))
        (below_at (length job.packets) (λ x. implies (is_or (packet job x).kind) (some_slot (packet job x).deps (all_decrementers job list x))) ors r there) (ap is_or k)) in
        (slot, s, record { is_packet = there; signal = is }, decrementer_ahead r s h);
  }

  pub full_by_test : OrderList job list → keeps_branches job list ≡ true → FullOrderList job list
  full_by_test order branches = record {
    order = order;
    branches = λ r slot s d k w f.
        decrementer_ahead r s
        (slots_at (packet job r).deps (all_decrementers job list r)
        (implied (is_or (packet job r).kind) (all_slots (packet job r).deps (all_decrementers job list r))
        (below_at (length job.packets) (λ x. implies (is_or (packet job x).kind) (all_slots (packet job x).deps (all_decrementers job list x))) branches r w.is_packet) (ap is_or k))
        slot s w.signal) d f;
  }
