-- A loop that asks each number in turn, and ends at none before the last.
use Rattle.std.proofs.Common.{◌≡◌, ℕ, ◌+◌, ◌<◌, ◌≤◌, ◌↔◌, ◌⊎◌, inl, inr, Bool, true, false, ◌&&◌, IsTrue, refl, sym, subst, arith}
use Rattle.std.proofs.lemmas.Bool.{cases_lt, true≢false}

-- one number more
pub all_more : (P : ℕ → Type 0) (start n : ℕ) (all test : Bool) → (IsTrue all ↔ ((e : ℕ) → start ≤ e → e < n → P e)) → (IsTrue test ↔ P n) → start ≤ n
    → IsTrue (all && test) ↔ ((e : ℕ) → start ≤ e → e < n + 1 → P e)
all_more P start n true true so here from = (
  λ t e low high. elim (cases_lt e n) [ inl l ↦ so.0 refl e low l | inr g ↦ let same : n ≡ e = omega arith in subst P same (here.0 refl) ],
  λ h. refl,
)
all_more P start n true false so here from = (λ t. absurd (true≢false (sym t)), λ h. here.1 (h n from (omega arith)))
all_more P start n false test so here from = (λ t. absurd (true≢false (sym t)), λ h. so.1 (λ e low high. h e low (omega arith)))

-- all numbers up to the end
pub all_done : (P : ℕ → Type 0) (start end n : ℕ) (all : Bool) → (IsTrue all ↔ ((e : ℕ) → start ≤ e → e < n → P e)) → end ≤ n → (n ≡ start) ⊎ (n ≤ end)
    → IsTrue all ↔ ((e : ℕ) → start ≤ e → e < end → P e)
all_done P start end n all so upto near = (
  λ t e low high. so.0 t e low (omega arith),
  λ h. so.1 (λ e low high. elim near [ inl s ↦ absurd (omega (arith, s)) | inr le ↦ h e low (omega (arith, le)) ]),
)
