-- Lists of which each entry passes.
use Rattle.std.proofs.Common.{◌≡◌, ℕ, zero, suc, ◌+◌, ◌<◌, ◌≤◌, Bool, true, false, cond, List, [], ◌∷◌, ◌++◌, length, take, drop, ap, sym, ◌∙◌, subst, arith, All, IsTrue}
use Rattle.std.specs.Prelude.{filter, slice_index_or}
use Rattle.std.proofs.Math.Seq.{get_or-append_seam}
use Rattle.std.proofs.lemmas.List.{drop_more, length-append, length-take-le, take_more, take_all, take-append-drop}
use Rattle.std.proofs.lemmas.List.Elements.{All-append, filter-append}

one : {X : Type 0} (P : X → Type 0) (x : X) → P x → All P (x ∷ [])
one P x p zero d l = p
one P x p (suc k) d l = absurd (omega arith)

-- One entry more.
pub taken_more : {X : Type 0} (P : X → Type 0) (xs : List X) (i : ℕ) (d : X) → i < length xs → P (slice_index_or xs i d) → All P (take i xs) → All P (take (i + 1) xs)
taken_more P xs i d l p all = subst (All P) (sym (take_more xs i d l)) (All-append P (take i xs) (slice_index_or xs i d ∷ []) all (one P (slice_index_or xs i d) p))

-- All entries.
pub taken_all : {X : Type 0} (P : X → Type 0) (xs : List X) (i : ℕ) → length xs ≤ i → All P (take i xs) → All P xs
taken_all P xs i l all = subst (All P) (take_all i xs l) all

-- A test that passes and doesn't.
pub untrue : (b : Bool) → IsTrue b → b ≡ false → ⊥
untrue b t f = cc

-- An entry that doesn't pass.
pub not_all : {X : Type 0} (p : X → Bool) (xs : List X) (i : ℕ) (d : X) → i < length xs → p (slice_index_or xs i d) ≡ false → All (λ x. IsTrue (p x)) xs → ⊥
not_all p xs i d l fails all = untrue (p (slice_index_or xs i d)) (all i d l) fails

-- what passes, with an entry that does, and what is behind it
passing : {X : Type 0} (p : X → Bool) (xs : List X) (i : ℕ) (d : X) → i < length xs → p (slice_index_or xs i d) ≡ true
    → filter p xs ≡ filter p (take i xs) ++ slice_index_or xs i d ∷ filter p (drop (i + 1) xs)
passing p xs i d l passes =
    let x = slice_index_or xs i d in
    ap (filter p) (sym (take-append-drop i xs)) ∙ filter-append p (take i xs) (drop i xs)
    ∙ ap (λ ys. filter p (take i xs) ++ filter p ys) (drop_more xs i d l)
    ∙ ap (λ b. filter p (take i xs) ++ cond b (x ∷ filter p (drop (i + 1) xs)) (filter p (drop (i + 1) xs))) passes

-- A list of what passes has, behind what passes of the entries so far, the next one that does.
pub next_in : {X : Type 0} (p : X → Bool) (xs list : List X) (i n : ℕ) (d : X) → i < length xs → p (slice_index_or xs i d) ≡ true → n ≤ length list
    → filter p (take i xs) ≡ take n list → filter p xs ≡ list → (n < length list) × (slice_index_or list n d ≡ slice_index_or xs i d)
next_in p xs list i n d l passes room front same =
    let x = slice_index_or xs i d in
    let rest = filter p (drop (i + 1) xs) in
    let is : list ≡ take n list ++ x ∷ rest = sym same ∙ passing p xs i d l passes ∙ ap (λ ys. ys ++ x ∷ rest) front in
    let count : length (take n list) ≡ n = length-take-le n list room in (
      omega (arith, ap length is, length-append (take n list) (x ∷ rest), count),
      ap (λ ys. slice_index_or ys n d) is ∙ ap (λ k. slice_index_or (take n list ++ x ∷ rest) k d) (sym count) ∙ get_or-append_seam (take n list) x rest d,
    )
