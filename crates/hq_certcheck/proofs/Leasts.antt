-- The least number that fails, among answers for many.
use Rattle.std.proofs.Common.{◌≡◌, ℕ, zero, suc, ◌+◌, ◌-◌, ◌^◌, ◌<◌, min, Bool, true, false, IsTrue, List, [], ◌∷◌, length, sym, subst, arith, refl, Option, None, Some, option_map, MatchOption, All, slice_index}
use Rattle.std.specs.List.{AllZip, range_with_len}
use Rattle.std.proofs.lemmas.List.Elements.{All-cons}
use Rattle.std.proofs.lemmas.List.FromFn.{get_or-range_with_len, length-range_with_len}
use Rattle.rayon.specs.Lists.{first_true}
use Rattle.hq_certcheck.proofs.Flagged.{match_change}

-- the answer tells whether the statement fails
abbrev pub Tells : (ℕ → Type 0) → ℕ → Bool → Type 0
Tells P k b = (b ≡ false → P k) × (IsTrue b → P k → ⊥)

-- at k the statement fails, and at all places before k it holds
pub record IsFirstOf (P : ℕ → Type 0) (xs : List ℕ) (k : ℕ) : Type 0 where
  pub low : k < length xs
  pub bad : P (slice_index xs k) → ⊥
  pub first : (j : ℕ) → j < k → P (slice_index xs j)

all_before : (P : ℕ → Type 0) (x : ℕ) (xs : List ℕ) (i : ℕ) → P x → ((j : ℕ) → j < i → P (slice_index xs j)) → (j : ℕ) → j < suc i → P (slice_index (x ∷ xs) j)
all_before P x xs i here h zero l = here
all_before P x xs i here h (suc j) l = h j (omega arith)

later : (P : ℕ → Type 0) (x : ℕ) (xs : List ℕ) (o : Option ℕ) → P x → suc (length xs) < 2 ^ 64 → MatchOption o (All P xs) (IsFirstOf P xs) → MatchOption (option_map (λ k. min (k + 1) (2 ^ 64 - 1)) o) (All P (x ∷ xs)) (IsFirstOf P (x ∷ xs))
later P x xs None here short h = All-cons P x xs here h
later P x xs (Some i) here short h =
    let low : i < length xs = h.low in
    let next : suc i ≡ min (i + 1) (2 ^ 64 - 1) = omega arith in
    subst (IsFirstOf P (x ∷ xs)) next (record { low = omega arith; bad = h.bad; first = all_before P x xs i here h.first })

first_of_all : (P : ℕ → Type 0) (xs : List ℕ) (bs : List Bool) → AllZip (Tells P) xs bs → length xs < 2 ^ 64 → MatchOption (first_true bs) (All P xs) (IsFirstOf P xs)
first_of_all P [] [] z short = λ k d l. absurd (omega arith)
first_of_all P [] (b ∷ bs) z short = absurd z
first_of_all P (x ∷ xs) [] z short = absurd z
first_of_all P (x ∷ xs) (true ∷ bs) z short = record { low = omega arith; bad = z.0.1 refl; first = λ j l. absurd (omega arith) }
first_of_all P (x ∷ xs) (false ∷ bs) z short = later P x xs (first_true bs) (z.0.0 refl) short (first_of_all P xs bs z.1 (omega arith))

-- the least number below n at which the statement fails
pub record IsLeastOf (P : ℕ → Type 0) (n k : ℕ) : Type 0 where
  pub low : k < n
  pub bad : P k → ⊥
  pub first : (j : ℕ) → j < k → P j

numbered : (P : ℕ → Type 0) (n k : ℕ) → IsFirstOf P (range_with_len 0 n) k → IsLeastOf P n k
numbered P n k f =
    let low : k < n = omega (arith, f.low, length-range_with_len 0 n) in record {
      low = low;
      bad = λ p. f.bad (subst P (sym (get_or-range_with_len 0 n k 0 low)) (let e : k ≡ 0 + k = omega arith in subst P e p));
      first = λ j l. let e : slice_index (range_with_len 0 n) j ≡ j = omega (arith, get_or-range_with_len 0 n j 0 (omega (arith, l, low))) in subst P e (f.first j l);
    }

all_numbered : (P : ℕ → Type 0) (n : ℕ) → All P (range_with_len 0 n) → (k : ℕ) → k < n → P k
all_numbered P n all k l =
    let e : slice_index (range_with_len 0 n) k ≡ k = omega (arith, get_or-range_with_len 0 n k 0 l) in subst P e (all k 0 (omega (arith, l, length-range_with_len 0 n)))

pub least_told : (P : ℕ → Type 0) (n : ℕ) (bs : List Bool) → AllZip (Tells P) (range_with_len 0 n) bs → n < 2 ^ 64 → MatchOption (first_true bs) ((k : ℕ) → k < n → P k) (IsLeastOf P n)
least_told P n bs z short =
    match_change (first_true bs) (All P (range_with_len 0 n)) ((k : ℕ) → k < n → P k) (IsFirstOf P (range_with_len 0 n)) (IsLeastOf P n)
    (all_numbered P n) (numbered P n)
    (first_of_all P (range_with_len 0 n) bs z (omega (arith, short, length-range_with_len 0 n)))
