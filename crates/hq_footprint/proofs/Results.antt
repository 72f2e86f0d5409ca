-- Results of tasks, byte by byte.
use Rattle.std.proofs.Common.{◌≡◌, ℕ, zero, suc, ◌+◌, ◌<◌, List, [], ◌∷◌, ◌++◌, length, take, get_or, set, refl, sym, ap, ◌∙◌, arith}
use Rattle.std.proofs.lemmas.List.{take_more_set}
use Rattle.hq_footprint.specs.Tasks.{joined_by}

-- one more place
pub joined_more : (f : ℕ → ℕ → ℕ) (xs ys : List ℕ) (i : ℕ) → i < length xs → i < length ys
    → joined_by f (take (i + 1) xs) (take (i + 1) ys) ≡ joined_by f (take i xs) (take i ys) ++ f (get_or xs i 0) (get_or ys i 0) ∷ []
joined_more f [] ys i lt below = absurd (omega arith)
joined_more f (x ∷ xs) [] i lt below = absurd (omega arith)
joined_more f (x ∷ xs) (y ∷ ys) zero lt below = refl
joined_more f (x ∷ xs) (y ∷ ys) (suc i) lt below =
    let e : suc i + 1 ≡ suc (i + 1) = omega arith in
    rw e (ap (λ (zs : List ℕ). f x y ∷ zs) (joined_more f xs ys i (omega arith) (omega arith)))

-- a loop's step that writes it
pub joined_written : (f : ℕ → ℕ → ℕ) (xs ys out : List ℕ) (i : ℕ) → i < length out → length xs ≡ length out → length ys ≡ length out
    → take i out ≡ joined_by f (take i xs) (take i ys)
    → take (i + 1) (set out i (f (get_or xs i 0) (get_or ys i 0))) ≡ joined_by f (take (i + 1) xs) (take (i + 1) ys)
joined_written f xs ys out i lt ex ey so_far =
    let b : ℕ = f (get_or xs i 0) (get_or ys i 0) in
    take_more_set out i b lt ∙ ap (λ (zs : List ℕ). zs ++ b ∷ []) so_far ∙ sym (joined_more f xs ys i (omega arith) (omega arith))
