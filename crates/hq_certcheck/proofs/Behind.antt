-- Items of a list that has more behind it.
use Rattle.std.proofs.Common.{◌≡◌, ℕ, zero, suc, ◌+◌, ◌<◌, List, [], ◌∷◌, ◌++◌, length, ◌∙◌, ap, refl, arith, slice_get}

pub got_left : {X : Type 0} (xs ys : List X) (k : ℕ) → k < length xs → slice_get (xs ++ ys) k ≡ slice_get xs k
got_left [] ys k l = absurd (omega arith)
got_left (x ∷ xs) ys zero l = refl
got_left (x ∷ xs) ys (suc k) l = got_left xs ys k (omega arith)

pub got_right : {X : Type 0} (xs ys : List X) (k : ℕ) → slice_get (xs ++ ys) (length xs + k) ≡ slice_get ys k
got_right [] ys k = let e : 0 + k ≡ k = omega arith in ap (slice_get ys) e
got_right (x ∷ xs) ys k = let e : length (x ∷ xs) + k ≡ suc (length xs + k) = omega arith in ap (slice_get (x ∷ xs ++ ys)) e ∙ got_right xs ys k
