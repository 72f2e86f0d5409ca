-- Rows, and rounds of rows, that are added behind others.
use Rattle.std.proofs.Common.{◌≡◌, ℕ, zero, suc, ◌+◌, ◌-◌, ◌<◌, inl, inr, List, [], ◌∷◌, ◌++◌, length, refl, sym, ◌∙◌, ap, subst, arith, slice_index_or, map, length-append}
use Rattle.std.specs.Global.{Vec}
use Rattle.std.proofs.lemmas.Bool.{cases_lt}
use Rattle.hq_bits.specs.Bits.{Grown}
use Rattle.hq_rows.specs.Matrix.{row, IsSquare, matrix, last}

pub below_pushed : {X Y : Type 0} (f : X → List Y) (xs : List X) (x : X) (k : ℕ) → k < length xs → slice_index_or (map f (xs ++ x ∷ [])) k [] ≡ slice_index_or (map f xs) k []
below_pushed f [] x k l = absurd (omega arith)
below_pushed f (y ∷ ys) x zero l = refl
below_pushed f (y ∷ ys) x (suc k) l = below_pushed f ys x k (omega arith)

pub at_pushed : {X Y : Type 0} (f : X → List Y) (xs : List X) (x : X) → slice_index_or (map f (xs ++ x ∷ [])) (length xs) [] ≡ f x
at_pushed f [] x = refl
at_pushed f (y ∷ ys) x = at_pushed f ys x

pub last_pushed : (rounds : List (Vec (Vec ℕ))) (x : Vec (Vec ℕ)) → last (rounds ++ x ∷ []) ≡ x.items
last_pushed rounds x =
    let more : length (rounds ++ x ∷ []) ≡ length rounds + 1 = length-append rounds (x ∷ []) in
    let e : length (rounds ++ x ∷ []) - 1 ≡ length rounds = omega arith in
    ap (matrix (rounds ++ x ∷ [])) e ∙ at_pushed (λ v. v.items) rounds x

-- what holds of each item below, and of the one that is pushed
pub pushed_item : {X : Type 0} (P : ℕ → X → Type 0) (xs : List X) (x none : X) (new : List X) (n : ℕ) → length xs ≡ n → new ≡ xs ++ x ∷ [] → ((k : ℕ) → k < n → P k (slice_index_or xs k none)) → P n x → (k : ℕ) → k < n + 1 → P k (slice_index_or new k none)
pushed_item P xs x none new n len e h here k l = subst (λ ys. P k (slice_index_or ys k none)) (sym e) (elim (cases_lt k n) [
  | inl low ↦ subst (P k) (sym (item_below xs x none k (omega (arith, low, len)))) (h k low)
  | inr high ↦
      let is : n ≡ k = omega (arith, high, l) in
      subst (λ j. P j (slice_index_or (xs ++ x ∷ []) j none)) is (subst (P n) (sym (ap (λ j. slice_index_or (xs ++ x ∷ []) j none) (sym len) ∙ item_at xs x none)) here)
])
  where
    item_below : {X : Type 0} (xs : List X) (x none : X) (k : ℕ) → k < length xs → slice_index_or (xs ++ x ∷ []) k none ≡ slice_index_or xs k none
    item_below [] x none k l = absurd (omega arith)
    item_below (y ∷ ys) x none zero l = refl
    item_below (y ∷ ys) x none (suc k) l = item_below ys x none k (omega arith)

    item_at : {X : Type 0} (xs : List X) (x none : X) → slice_index_or (xs ++ x ∷ []) (length xs) none ≡ x
    item_at [] x none = refl
    item_at (y ∷ ys) x none = item_at ys x none

-- what holds of each row below, and of the one that is pushed
pub pushed : (P : ℕ → List ℕ → Type 0) (rows : List (Vec ℕ)) (x : Vec ℕ) (new : List (Vec ℕ)) (n : ℕ) → length rows ≡ n → new ≡ rows ++ x ∷ [] → ((r : ℕ) → r < n → P r (row rows r)) → P n x.items → (r : ℕ) → r < n + 1 → P r (row new r)
pushed P rows x new n len e h here r l = subst (λ ys. P r (row ys r)) (sym e) (elim (cases_lt r n) [
  | inl low ↦ subst (P r) (sym (below_pushed (λ v. v.items) rows x r (omega arith))) (h r low)
  | inr high ↦
      let is : n ≡ r = omega arith in
      subst (λ k. P k (row (rows ++ x ∷ []) k)) is (subst (P n) (sym (ap (row (rows ++ x ∷ [])) (sym len) ∙ at_pushed (λ v. v.items) rows x)) here)
])

pub square_grown : (n : ℕ) (old new : List (Vec ℕ)) → IsSquare n old → length new ≡ length old → ((r : ℕ) → r < length old → Grown (row old r) (row new r)) → IsSquare n new
square_grown n old new sq e g = record {
  height = e ∙ sq.height;
  width = λ r l. (g r (let h = sq.height in omega arith)).len ∙ sq.width r l;
  room = sq.room;
  few = sq.few;
}

pub matrix_is : (rounds : List (Vec (Vec ℕ))) (k : ℕ) (x : Vec (Vec ℕ)) → k < length rounds → x ≡ slice_index_or rounds k x → matrix rounds k ≡ x.items
matrix_is [] k x l is = absurd (omega arith)
matrix_is (y ∷ ys) zero x l is = ap (λ v. v.items) (sym is)
matrix_is (y ∷ ys) (suc k) x l is = matrix_is ys k x (omega arith) is

pub last_is : (rounds : List (Vec (Vec ℕ))) (n : ℕ) (x : Vec (Vec ℕ)) → 0 < length rounds → n ≡ length rounds → x ≡ slice_index_or rounds (n - 1) x → last rounds ≡ x.items
last_is rounds n x some e is = matrix_is rounds (length rounds - 1) x (omega arith) (is ∙ ap (λ k. slice_index_or rounds (k - 1) x) e)
