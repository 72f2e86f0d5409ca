-- The steps of the order, as rows of bits.
use Rattle.std.proofs.Common.{◌≡◌, ◌↔◌, ℕ, ◌+◌, ◌<◌, ◌≤◌, ◌⊎◌, inl, inr, List, length, refl, ◌∙◌, subst, arith, IsTrue, Bool, true, false, ◌&&◌, not}
use Rattle.std.proofs.lemmas.Bool.{cases_lt}
use Rattle.hq_model.specs.Job.{Job}
use Rattle.hq_model.specs.Order.{Before}
use Rattle.hq_model.specs.Order.Before.{through}
use Rattle.hq_bits.specs.Bits.{has}
use Rattle.hq_derive.proofs.Founded.{before_second}
use Rattle.hq_graph.specs.Order.{IsStep}

-- ---- a test that is one and not another

out_of_left : (a b c : Bool) → a ≡ (b && not c) → b ≡ false → a ≡ false
out_of_left a true c e f = absurd cc
out_of_left a false c e f = e

out_of_right : (a b c : Bool) → a ≡ (b && not c) → IsTrue c → a ≡ false
out_of_right a true true e t = e
out_of_right a true false e t = absurd cc
out_of_right a false c e t = e

in_left : (a b c : Bool) → a ≡ (b && not c) → IsTrue a → IsTrue b
in_left a true c e t = refl
in_left a false c e t = absurd cc

why_out : (a b c : Bool) → a ≡ (b && not c) → a ≡ false → (b ≡ false) ⊎ IsTrue c
why_out a false c e f = inl refl
why_out a true true e f = inr refl
why_out a true false e f = absurd cc

never : (b : Bool) → IsTrue b → b ≡ false → ⊥
never true t f = cc
never false t f = cc

is_or_not : (b : Bool) → IsTrue b ⊎ (b ≡ false)
is_or_not true = inl refl
is_or_not false = inr refl

-- ---- leaving those that are before no other

-- What is left of a set, once those before its first i numbers are out: whatever is out is before one of the set, and with it all before it.
pub record Left (job : Job) (old new : List ℕ) (i : ℕ) : Type 0 where
  pub len : length new ≡ length old
  pub kept : (p : ℕ) → IsTrue (has new p) → IsTrue (has old p)
  pub gone : (p : ℕ) → IsTrue (has old p) → has new p ≡ false → (m : ℕ) × IsTrue (has old m) × Before job p m
  pub down : (p m : ℕ) → IsTrue (has old m) → has new m ≡ false → Before job p m → has new p ≡ false
  pub done : (p m : ℕ) → m < i → IsTrue (has old m) → Before job p m → has new p ≡ false

left_skipped : (job : Job) (old new : List ℕ) (i k : ℕ) → Left job old new i → ((s : ℕ) → i ≤ s → s < k → has new s ≡ false) → Left job old new k
left_skipped job old new i k h none = record {
  len = h.len;
  kept = h.kept;
  gone = h.gone;
  down = h.down;
  done = λ p m l t b. elim (cases_lt m i) [ inl low ↦ h.done p m low t b | inr high ↦ h.down p m t (none m high l) b ];
}

left_next : (job : Job) (old new others next : List ℕ) (i : ℕ) → Left job old new i → IsTrue (has new i) → ((p : ℕ) → IsTrue (has others p) ↔ Before job p i) → ((p : ℕ) → has next p ≡ (has new p && not (has others p))) → length next ≡ length new
    → Left job old next (i + 1)
left_next job old new others next i h here are out len = record {
  len = len ∙ h.len;
  kept = λ p t. h.kept p (in_left (has next p) (has new p) (has others p) (out p) t);
  gone = λ p t f. elim (why_out (has next p) (has new p) (has others p) (out p) f) [
    | inl x ↦ h.gone p t x
    | inr x ↦ (i, h.kept i here, (are p).0 x)
  ];
  down = λ p m t f b. elim (why_out (has next m) (has new m) (has others m) (out m) f) [
    | inl x ↦ out_of_left (has next p) (has new p) (has others p) (out p) (h.down p m t x b)
    | inr x ↦ out_of_right (has next p) (has new p) (has others p) (out p) ((are p).1 (through {m = m} b ((are m).0 x)))
  ];
  done = λ p m l t b. elim (cases_lt m i) [
    | inl low ↦ out_of_left (has next p) (has new p) (has others p) (out p) (h.done p m low t b)
    | inr high ↦
        let same : m ≡ i = omega arith in
        out_of_right (has next p) (has new p) (has others p) (out p) ((are p).1 (subst (Before job p) same b))
  ];
}

pub left_more : (job : Job) (old new others next : List ℕ) (i k : ℕ) → Left job old new i → IsTrue (has new i) → ((p : ℕ) → IsTrue (has others p) ↔ Before job p i) → ((p : ℕ) → has next p ≡ (has new p && not (has others p))) → length next ≡ length new
    → ((s : ℕ) → i + 1 ≤ s → s < k → has next s ≡ false) → Left job old next k
left_more job old new others next i k h here are out len none = left_skipped job old next (i + 1) k (left_next job old new others next i h here are out len) none

pub left_all : (job : Job) (old new : List ℕ) (n : ℕ) → Left job old new n → length job.packets ≤ n → (p : ℕ) → IsTrue (has new p) ↔ (IsTrue (has old p) × ((m : ℕ) → IsTrue (has old m) → Before job p m → ⊥))
left_all job old new n h over p = (
  λ t. (h.kept p t, λ m o b. never (has new p) t (h.done p m (let low : m < length job.packets = before_second job p m b in omega arith) o b)),
  λ x. elim (is_or_not (has new p)) [
    | inl t ↦ t
    | inr f ↦ let g = h.gone p x.0 f in absurd (x.1 g.0 g.1 g.2)
  ],
)

-- ---- steps

pub steps_are : (job : Job) (old new : List ℕ) (r : ℕ) → ((p : ℕ) → IsTrue (has old p) ↔ Before job p r) → ((p : ℕ) → IsTrue (has new p) ↔ (IsTrue (has old p) × ((m : ℕ) → IsTrue (has old m) → Before job p m → ⊥)))
    → (p : ℕ) → IsTrue (has new p) ↔ IsStep job p r
steps_are job old new r are left p = (
  λ t. let x = (left p).0 t in record { before = (are p).0 x.0; none_between = λ m b c. x.1 m ((are m).1 c) b },
  λ s. (left p).1 ((are p).1 s.before, λ m o b. s.none_between m b ((are m).0 o)),
)
