-- Lines are noted as needed.
use Rattle.std.proofs.Common.{◌≡◌, ℕ, ◌+◌, ◌*◌, ◌/◌, ◌%◌, ◌^◌, ◌<◌, ◌⊎◌, inl, inr, List, length, refl, sym, ◌∙◌, ap, subst, arith, IsTrue, Bool, true, false, ◌||◌, ◌&&◌, ◌==◌, slice_index, slice_get, slice_set, bit_or, Some, take, drop, ◌++◌, append-nil}
use Rattle.std.specs.Prelude.{not}
use Rattle.std.specs.Int.{bit_at}
use Rattle.std.proofs.lemmas.List.{take_all, drop_all}
use Rattle.std.proofs.lemmas.Nat.Bits.{bit_at-zero}
use Rattle.std.proofs.lemmas.Option.{same_Some}
use Rattle.hq_bits.specs.Bits.{has}
use Rattle.hq_bits.proofs.Sets.{has_insert, has_word}
use Rattle.hq_bits.proofs.Words.{or_cases, eq_test, within}
use Rattle.hq_bits.proofs.Walked.{column_has}
use Rattle.hq_model.specs.Certificate as model
use Rattle.hq_model.specs.Certificate.{Says}
use Rattle.hq_derive.specs.declared.needs.Needs.{Needs}
use Rattle.hq_derive.specs.Needed.{HasLine, IsNeeded}

-- what a row has, it has when bits are put over one of its words
pub has_still : (row : List ℕ) (k w x : ℕ) → k < length row → IsTrue (has row x) → IsTrue (has (slice_set row k (bit_or (slice_index row k) w)) x)
has_still row k w x low h = has_word row k w x low ∙ ap (λ b. b || ((x / 64 == k) && (bit_at w (x % 64) == 1))) h

-- and it has the number whose bit that is
pub has_noted : (row : List ℕ) (k p r : ℕ) → k ≡ (p * 1024 + r) / 64 → k < length row → IsTrue (has (slice_set row k (bit_or (slice_index row k) (1 * 2 ^ (r % 64) % 2 ^ 64))) (p * 1024 + r))
has_noted row k p r place low =
    let n : ℕ = p * 1024 + r in
    let bit : n % 64 ≡ r % 64 = omega arith in
    let at : n / 64 ≡ k = omega (arith, place) in
    let is : IsTrue (has (slice_set row (n / 64) (bit_or (slice_index row (n / 64)) (1 * 2 ^ (n % 64) % 2 ^ 64))) n) =
    has_insert row n n (omega (arith, place, low)) ∙ (or_cases (has row n) (n == n)).1 (inr ((eq_test n n).1 refl)) in
    subst (λ b. IsTrue (has (slice_set row k (bit_or (slice_index row k) (1 * 2 ^ b % 2 ^ 64))) n)) bit
    (subst (λ j. IsTrue (has (slice_set row j (bit_or (slice_index row j) (1 * 2 ^ (n % 64) % 2 ^ 64))) n)) at is)

-- and no other but those that it had
pub noted_only : (row : List ℕ) (k p r n : ℕ) → k ≡ (p * 1024 + r) / 64 → k < length row → IsTrue (has (slice_set row k (bit_or (slice_index row k) (1 * 2 ^ (r % 64) % 2 ^ 64))) n) → IsTrue (has row n) ⊎ (n ≡ p * 1024 + r)
noted_only row k p r n place low h =
    let m : ℕ = p * 1024 + r in
    let bit : r % 64 ≡ m % 64 = omega arith in
    let at : k ≡ m / 64 = place in
    let here : IsTrue (has (slice_set row k (bit_or (slice_index row k) (1 * 2 ^ (m % 64) % 2 ^ 64))) n) =
    subst (λ b. IsTrue (has (slice_set row k (bit_or (slice_index row k) (1 * 2 ^ b % 2 ^ 64))) n)) bit h in
    let is : IsTrue (has (slice_set row (m / 64) (bit_or (slice_index row (m / 64)) (1 * 2 ^ (m % 64) % 2 ^ 64))) n) =
    subst (λ j. IsTrue (has (slice_set row j (bit_or (slice_index row j) (1 * 2 ^ (m % 64) % 2 ^ 64))) n)) at here in
    elim ((or_cases (has row n) (n == m)).0 (sym (has_insert row m n (omega (arith, place, low))) ∙ is)) [
      | inl old ↦ inl old
      | inr same ↦ inr ((eq_test n m).0 same)
    ]

-- what a table has by its row and a bit of one of that row's words
pub noted_at : (bits : List ℕ) (p r : ℕ) → bit_at (slice_index bits (p * 16 + r / 64)) (r % 64) ≡ 1 → IsTrue (has bits (p * 1024 + r))
noted_at bits p r is =
    let n : ℕ = p * 1024 + r in
    let place : p * 16 + r / 64 ≡ n / 64 = omega arith in
    let bit : r % 64 ≡ n % 64 = omega arith in
    (eq_test (bit_at (slice_index bits (n / 64)) (n % 64)) 1).1
    (subst (λ b. bit_at (slice_index bits (n / 64)) b ≡ 1) bit (subst (λ k. bit_at (slice_index bits k) (r % 64) ≡ 1) place is))

-- where none is left of a word without another, that other has each bit of it
pub none_left : (rest word other bit : ℕ) → rest ≡ 0 → (bit_at rest bit == 1) ≡ ((bit_at word bit == 1) && not (bit_at other bit == 1)) → bit_at word bit ≡ 1 → bit_at other bit ≡ 1
none_left rest word other bit none is one = go (bit_at other bit == 1) refl
  where
    go : (b : Bool) → (bit_at other bit == 1) ≡ b → bit_at other bit ≡ 1
    go true e = (eq_test (bit_at other bit) 1).0 e
    go false e =
        let zero : bit_at rest bit ≡ 0 = ap (λ w. bit_at w bit) none ∙ bit_at-zero bit in
        let both : false ≡ true = sym (ap (λ x. x == 1) zero) ∙ is ∙ ap (λ x. (x == 1) && not (bit_at other bit == 1)) one ∙ ap not e in
        absurd cc

-- ---- the row of a packet

pub never_both : (b : Bool) → IsTrue b → b ≡ false → ⊥
never_both true t f = absurd cc
never_both false t f = absurd cc

-- what a packet is needed to be before stands in its row
pub needed_in : (needs : Needs) (p r : ℕ) (bits row : List ℕ) → bits ≡ needs.bits.items → row ≡ take 16 (drop (p * 16) bits) → IsNeeded needs p r → IsTrue (has row r)
needed_in needs p r bits row is column h =
    let low : r < 1024 = h.0 in
    let there : IsTrue (has bits (p * 1024 + r)) = subst (λ xs. IsTrue (has xs (p * 1024 + r))) (sym is) h.1 in
    subst (λ xs. IsTrue (has xs r)) (sym column) (column_has bits p r (omega (arith, low)) ∙ there)

-- a packet that is needed to be before another has a row
pub needed_low : (needs : Needs) (n p r : ℕ) → length needs.bits.items ≡ n * 16 → IsNeeded needs p r → p < n
needed_low needs n p r len h =
    let low : r < 1024 = h.0 in
    let there = within needs.bits.items (p * 1024 + r) h.1 in
    omega (arith, low, there, len)

-- ---- a line, where it stands

pub said_here : (lines : List model.Line) (k p r : ℕ) (x : model.Line) → slice_get lines k ≡ Some x → Says lines (length lines) k p r → (x.p ≡ p) × (x.r ≡ r)
said_here lines k p r x is s =
    let same : x ≡ s.line = same_Some x s.line (sym is ∙ s.there) in
    (ap (λ (l : model.Line). l.p) same ∙ s.first, ap (λ (l : model.Line). l.r) same ∙ s.second)

pub says_here : (lines : List model.Line) (k p r : ℕ) (x : model.Line) → k < length lines → slice_get lines k ≡ Some x → x.p ≡ p → x.r ≡ r → Says lines (length lines) k p r
says_here lines k p r x low is first second = record {
  lower = low;
  line = x;
  there = is;
  first = first;
  second = second;
}

-- ---- what is noted of the lines that are there

-- where the line's own packets are noted too
pub noted_line : (lines : List model.Line) (k first second p r : ℕ) (x : model.Line) → k < length lines → length lines < 2 ^ 32 → slice_get lines k ≡ Some x → first ≡ x.p → second ≡ x.r → second < 1024 → r < 1024
    → p * 1024 + r ≡ first * 1024 + second → HasLine lines p r
noted_line lines k first second p r x low small is f s below few same =
    let a : p ≡ first = omega (arith, below, few, same) in
    let b : r ≡ second = omega (arith, below, few, same) in
    (k, (says_here lines k p r x low is (sym (a ∙ f)) (sym (b ∙ s)), omega (arith, low, small)))

-- ---- a vector that was lent as a slice

pub restored : (row items : List ℕ) (len : ℕ) → length row ≡ length items → len ≡ length items → take len (row ++ drop (length row) items) ≡ row
restored row items len e f = ap (λ t. take len (row ++ t)) (drop_all (length row) items (omega (arith, e))) ∙ ap (take len) (append-nil row) ∙ take_all len row (omega (arith, e, f))
