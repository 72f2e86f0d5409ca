-- One row of a list of rows changes in one place: so does the function of both.
use Rattle.std.proofs.Common.{◌≡◌, ℕ, ◌<◌, inl, inr, List, None, length, set, get_or, sym, ◌∙◌, ap, cond, eqb, get_or-set_same, get_or-set_other}
use Rattle.std.proofs.lemmas.Bool.{cases_eq, cond-true, cond-false, eq-eqb, ne_eqb}
use Rattle.std.specs.Cmp.{nat_cmp_total, unsigned_tied}
use Rattle.std.specs.FinMap as finite
use Rattle.hq_model.specs.Machine.{put2}
use Rattle.hq_model.specs.View.{Held, copies_of}
use Rattle.hq_model.proofs.Sums.{put2_same, put2_other}

pub row_put2 : {X Y : Type 0} (f : X → ℕ → Y) (xs : List X) (p i : ℕ) (x d : X) (y : Y) → p < length xs
    → ((j : ℕ) → f x j ≡ cond (eqb j i) y (f (get_or xs p d) j))
    → (λ (q j : ℕ). f (get_or (set xs p x) q d) j) ≡ put2 (λ (q j : ℕ). f (get_or xs q d) j) p i y
row_put2 {X = X} {Y = Y} f xs p i x d y l e = λ k q j. at q j k
  where
    old : ℕ → ℕ → Y
    old q j = f (get_or xs q d) j

    here : (q j : ℕ) → q ≡ p → f (get_or (set xs p x) q d) j ≡ cond (eqb j i) y (f (get_or xs p d) j)
    here q j g = ap (λ r. f (get_or (set xs p x) r d) j) g ∙ ap (λ r. f r j) (get_or-set_same xs p x d l) ∙ e j

    at : (q j : ℕ) → f (get_or (set xs p x) q d) j ≡ put2 (λ (q j : ℕ). f (get_or xs q d) j) p i y q j
    at q j = elim (cases_eq q p) [
      | inl g ↦ elim (cases_eq j i) [
        | inl h ↦ here q j g ∙ cond-true (eqb j i) y (f (get_or xs p d) j) (eq-eqb j i h) ∙ sym (put2_same (λ (q j : ℕ). f (get_or xs q d) j) p i y q j g h)
        | inr h ↦ here q j g ∙ cond-false (eqb j i) y (f (get_or xs p d) j) (ne_eqb j i h) ∙ ap (λ r. f (get_or xs r d) j) (sym g) ∙ sym (put2_other (λ (q j : ℕ). f (get_or xs q d) j) p i y q j (λ _ k. h k))
      ]
      | inr g ↦ ap (λ r. f r j) (get_or-set_other xs p q x d g) ∙ sym (put2_other (λ (q j : ℕ). f (get_or xs q d) j) p i y q j (λ k _. g k))
    ]

-- a map loses a byte
pub copies_of_remove : (maps : List Held) (p b : ℕ) → p < length maps → copies_of (set maps p (finite.remove (get_or maps p finite.empty) b)) ≡ put2 (copies_of maps) p b None
copies_of_remove maps p b l = row_put2 (λ (m : Held) (c : ℕ). finite.get m c) maps p b (finite.remove (get_or maps p finite.empty) b) finite.empty None l
    (λ c. finite.get-remove nat_cmp_total (get_or maps p finite.empty) b c ∙ ap (λ t. cond t None (finite.get (get_or maps p finite.empty) c)) (unsigned_tied c b))
