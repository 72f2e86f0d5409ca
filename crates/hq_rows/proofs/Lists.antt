-- Lists that grow at their end, and vectors lent as slices.
use Rattle.std.proofs.Common.{◌≡◌, ℕ, zero, suc, refl, ◌<◌, inl, inr, List, [], ◌∷◌, ◌++◌, length, sym, ◌∙◌, ap, subst, arith, take, drop, slice_index_or, length-append, true, false, ◌==◌}
use Rattle.std.proofs.lemmas.Bool.{cases_lt, cases_eq, eq-eqb, eqb-true}
use Rattle.std.proofs.lemmas.List.{get_or_push, get_or_append_left}
use Rattle.std.proofs.Math.Seq.{take-append_seam}
use Rattle.std.specs.Global.{Vec}
use Rattle.hq_rows.specs.Matrix.{row}
use Rattle.hq_rows.specs.Lists.{AllAre}

pub all_push : {X : Type 0} (P : ℕ → X → Type 0) (xs : List X) (x : X) (n : ℕ) → AllAre P xs → length xs ≡ n → P n x → AllAre P (xs ++ x ∷ [])
all_push P xs x n all e this = record {
  at = λ i none l. elim (cases_lt i (length xs)) [
    | inl low ↦ subst (P i) (sym (get_or_append_left xs (x ∷ []) none i low)) (all.at i none low)
    | inr high ↦
        let same : length xs ≡ i = omega (arith, length-append xs (x ∷ [])) in
        subst (P i) (sym (get_or_push xs x none i same)) (subst (λ k. P k x) (sym e ∙ same) this)
  ];
}

-- one of the list
pub one_is : {X : Type 0} (P : ℕ → X → Type 0) (xs : List X) (i : ℕ) (x : X) → AllAre P xs → i < length xs → x ≡ slice_index_or xs i x → P i x
one_is P xs i x all l e = subst (P i) (sym e) (all.at i x l)

-- a vector that was lent holds what the slice holds
pub lent : {X : Type 0} (n : ℕ) (new old : List X) → n ≡ length old → length new ≡ length old → take n (new ++ drop (length new) old) ≡ new
lent n new old e l = ap (λ k. take k (new ++ drop (length new) old)) (e ∙ sym l) ∙ take-append_seam new (drop (length new) old)

pub empty_length : (n k : ℕ) → n ≡ k → true ≡ (n == 0) → k ≡ 0
empty_length n k e h = let z : n ≡ 0 = eqb-true n 0 (sym h) in omega arith

pub some_length : (n k : ℕ) → n ≡ k → false ≡ (n == 0) → 0 < k
some_length n k e h = elim (cases_eq n 0) [
  | inl z ↦ let t : (n == 0) ≡ true = eq-eqb n 0 z in let never : ⊥ = cc in absurd never
  | inr d ↦ omega arith
]

-- what holds of each row
pub all_rows : (P : ℕ → List ℕ → Type 0) (rows : List (Vec ℕ)) (s : ℕ) → AllAre (λ s v. P s v.items) rows → s < length rows → P s (row rows s)
all_rows P [] s all l = absurd (omega arith)
all_rows P (y ∷ ys) s all l = subst (P s) (sym (there (y ∷ ys) s l)) (all.at s y l)
  where
    there : (rows : List (Vec ℕ)) (s : ℕ) → s < length rows → row rows s ≡ (slice_index_or rows s y).items
    there [] s l = absurd (omega arith)
    there (x ∷ xs) zero l = refl
    there (x ∷ xs) (suc s) l = there xs s (omega arith)
