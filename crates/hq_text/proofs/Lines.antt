-- The lines of parts of which the last is empty.
use Rattle.std.proofs.Common.{◌≡◌, ℕ, List, [], ◌∷◌, ◌++◌, length, refl, ap, arith}
use Rattle.hq_text.specs.Lines.{without_empty_last}

pub drops_last : (ys : List (List ℕ)) (x : List ℕ) → length x ≡ 0 → without_empty_last (ys ++ x ∷ []) ≡ ys
drops_last [] [] e = refl
drops_last [] (b ∷ bs) e = absurd (omega arith)
drops_last ([] ∷ []) x e = ap (λ ls. [] ∷ ls) (drops_last [] x e)
drops_last ((b ∷ y) ∷ []) x e = ap (λ ls. (b ∷ y) ∷ ls) (drops_last [] x e)
drops_last ([] ∷ z ∷ ys) x e = ap (λ ls. [] ∷ ls) (drops_last (z ∷ ys) x e)
drops_last ((b ∷ y) ∷ z ∷ ys) x e = ap (λ ls. (b ∷ y) ∷ ls) (drops_last (z ∷ ys) x e)
