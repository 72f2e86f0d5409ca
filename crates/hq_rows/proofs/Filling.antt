-- Rows of bits, as they are filled.
use Rattle.std.proofs.Common.{◌≡◌, ℕ, ◌+◌, ◌/◌, ◌%◌, ◌<◌, ◌↔◌, ◌⊎◌, inl, inr, Bool, true, false, ◌||◌, ◌==◌, IsTrue, List, length, refl, sym, ◌∙◌, ap, subst, arith, slice_index, replicate}
use Rattle.std.specs.Int.{bit_at}
use Rattle.std.proofs.lemmas.Bool.{cases_eq, cases_lt}
use Rattle.std.proofs.lemmas.List.{get_or_past, get_or-replicate, length-replicate}
use Rattle.std.proofs.lemmas.Nat.Bits.{bit_at-zero}
use Rattle.hq_bits.specs.Bits.{has}

-- a row of zeros has nothing
replicated : (n i : ℕ) → slice_index (replicate n 0) i ≡ 0
replicated n i = elim (cases_lt i n) [
  | inl low ↦ get_or-replicate n i 0 0 low
  | inr high ↦ get_or_past (replicate n 0) i 0 (omega (arith, length-replicate {A = ℕ} n 0))
]

pub has_no_bit : (row : List ℕ) (p : ℕ) → slice_index row (p / 64) ≡ 0 → has row p ≡ false
has_no_bit row p e = ap (λ w. bit_at w (p % 64) == 1) e ∙ ap (λ b. b == 1) (bit_at-zero (p % 64))

pub has_nothing : (row : List ℕ) (n p : ℕ) → row ≡ replicate n 0 → has row p ≡ false
has_nothing row n p e = has_no_bit row p (ap (λ r. slice_index r (p / 64)) e ∙ replicated n (p / 64))

pub or_either : (a b : Bool) → (a || b) ≡ true → (a ≡ true) ⊎ (b ≡ true)
or_either true b h = inl refl
or_either false b h = inr h

pub or_left : (a b : Bool) → a ≡ true → (a || b) ≡ true
or_left true b h = refl
or_left false b h = absurd (cc)

pub or_right : (a b : Bool) → b ≡ true → (a || b) ≡ true
or_right true b h = refl
or_right false b h = h

-- what the old row had, and what the statement says of a number below i
pub record Gathered (P : ℕ → ℕ → Type 0) (old : List ℕ) (i : ℕ) (row : List ℕ) : Type 0 where
  pub are : (e : ℕ) → IsTrue (has row e) ↔ (IsTrue (has old e) ⊎ ((k : ℕ) × (k < i) × P k e))
  pub len : length row ≡ length old

pub gathered_in : (P : ℕ → ℕ → Type 0) (old : List ℕ) (i : ℕ) (row new : List ℕ) → Gathered P old i row → ((e : ℕ) → IsTrue (has new e) ↔ (IsTrue (has row e) ⊎ P i e)) → length new ≡ length row → Gathered P old (i + 1) new
gathered_in P old i row new u grows same_len = record {
  are = λ e. (
    λ h. elim ((grows e).0 h) [
      | inl before ↦ elim ((u.are e).0 before) [ inl t ↦ inl t | inr b ↦ inr (b.0, omega (arith, b.1), b.2) ]
      | inr this ↦ inr (i, omega arith, this)
    ],
    λ h. elim h [
      | inl t ↦ (grows e).1 (inl ((u.are e).1 (inl t)))
      | inr b ↦ elim (cases_eq b.0 i) [
        | inl same ↦ (grows e).1 (inr (subst (λ k. P k e) same b.2))
        | inr apart ↦ (grows e).1 (inl ((u.are e).1 (inr (b.0, omega (arith, b.1), b.2))))
      ]
    ],
  );
  len = same_len ∙ u.len;
}

pub gathered_out : (P : ℕ → ℕ → Type 0) (old : List ℕ) (i : ℕ) (row : List ℕ) → Gathered P old i row → ((e : ℕ) → P i e → ⊥) → Gathered P old (i + 1) row
gathered_out P old i row u never = record {
  are = λ e. (
    λ h. elim ((u.are e).0 h) [ inl t ↦ inl t | inr b ↦ inr (b.0, omega (arith, b.1), b.2) ],
    λ h. elim h [
      | inl t ↦ (u.are e).1 (inl t)
      | inr b ↦ elim (cases_eq b.0 i) [
        | inl same ↦ absurd (never e (subst (λ k. P k e) same b.2))
        | inr apart ↦ (u.are e).1 (inr (b.0, omega (arith, b.1), b.2))
      ]
    ],
  );
  len = u.len;
}

pub united : (P : ℕ → Type 0) (row other new : List ℕ) → ((e : ℕ) → has new e ≡ (has row e || has other e)) → ((e : ℕ) → IsTrue (has other e) ↔ P e) → (e : ℕ) → IsTrue (has new e) ↔ (IsTrue (has row e) ⊎ P e)
united P row other new joins are e = (
  λ h. elim (or_either (has row e) (has other e) (sym (joins e) ∙ h)) [ inl t ↦ inl t | inr b ↦ inr ((are e).0 b) ],
  λ h. joins e ∙ elim h [ inl t ↦ or_left (has row e) (has other e) t | inr b ↦ or_right (has row e) (has other e) ((are e).1 b) ],
)
