-- What came home, cell by cell.
use Rattle.std.proofs.Common.{◌≡◌, ℕ, ◌+◌, ◌/◌, ◌<◌, List, [], ◌∷◌, ◌++◌, length, take, map, Some, None, refl, ap, sym, ◌∙◌, inl, inr, arith}
use Rattle.std.specs.Prelude.{Option, All, AllPairs, slice_index_or}
use Rattle.std.specs.Option.{option_map, option_to_list}
use Rattle.std.proofs.lemmas.Bool.{cases_lt}
use Rattle.std.proofs.lemmas.List.{take_more, length-take-le, map-append}
use Rattle.std.proofs.lemmas.List.Kept.{AllPairs-cons}
use Rattle.std.proofs.lemmas.List.Elements.{All-nil, All-cons}
use Rattle.hq_ledger.specs.declared.tray.Home.{Home}
use Rattle.hq_ledger.specs.Trays.{Left, homed, homes_from, IsAhead, part_of}

homes_append : (n : ℕ) (xs ys : List (Option Left)) → homes_from n (xs ++ ys) ≡ homes_from n xs ++ homes_from (n + length xs) ys
homes_append n [] ys = ap (λ k. homes_from k ys) (omega arith)
homes_append n (None ∷ xs) ys = homes_append (1 + n) xs ys ∙ ap (λ k. homes_from (1 + n) xs ++ homes_from k ys) (omega arith)
homes_append n (Some left ∷ xs) ys = ap (λ hs. homed n left ∷ hs) (homes_append (1 + n) xs ys ∙ ap (λ k. homes_from (1 + n) xs ++ homes_from k ys) (omega arith))

ahead : (n m : ℕ) (a b : Left) → n < m → IsAhead (homed n a) (homed m b)
ahead n m a b low = elim (cases_lt (n / 3) (m / 3)) [
  | inl less ↦ inl less
  | inr more ↦ inr (omega arith, omega arith)
]

all_ahead : (n m : ℕ) (a : Left) (xs : List (Option Left)) → n < m → All (IsAhead (homed n a)) (homes_from m xs)
all_ahead n m a [] low = All-nil (IsAhead (homed n a))
all_ahead n m a (None ∷ xs) low = all_ahead n (1 + m) a xs (omega arith)
all_ahead n m a (Some b ∷ xs) low = All-cons (IsAhead (homed n a)) (homed m b) (homes_from (1 + m) xs) (ahead n m a b low) (all_ahead n (1 + m) a xs (omega arith))

pub homes_ahead : (n : ℕ) (xs : List (Option Left)) → AllPairs IsAhead (homes_from n xs)
homes_ahead n [] = λ i j d low within. absurd (omega arith)
homes_ahead n (None ∷ xs) = homes_ahead (1 + n) xs
homes_ahead n (Some a ∷ xs) = AllPairs-cons IsAhead (homed n a) (homes_from (1 + n) xs) (all_ahead n (1 + n) a xs (omega arith)) (homes_ahead (1 + n) xs)

-- the homes of one cell
one_home : (number : ℕ) (x : Option Left) → homes_from number (x ∷ []) ≡ option_to_list (option_map (homed number) x)
one_home number None = refl
one_home number (Some left) = refl

-- the homes of one cell more
homes_more : (known : List (Option Left)) (number : ℕ) → number < length known
    → homes_from 0 (take (number + 1) known) ≡ homes_from 0 (take number known) ++ option_to_list (option_map (homed number) (slice_index_or known number None))
homes_more known number low =
    let taken : length (take number known) ≡ number = length-take-le number known (omega arith) in
    let seam : 0 + length (take number known) ≡ number = omega (arith, taken) in
    ap (homes_from 0) (take_more known number None low)
    ∙ homes_append 0 (take number known) (slice_index_or known number None ∷ [])
    ∙ ap (λ k. homes_from 0 (take number known) ++ homes_from k (slice_index_or known number None ∷ [])) seam
    ∙ ap (λ hs. homes_from 0 (take number known) ++ hs) (one_home number (slice_index_or known number None))

-- what was gathered and the home of the next cell are what came home to one cell more
pub gathered_more : (old known : List (Option Left)) (homes more : List Home) (home : Option Home) (number : ℕ) → number < length known
    → map part_of homes ≡ homes_from 0 (take number old) → take number known ≡ take number old
    → option_map part_of home ≡ option_map (homed number) (slice_index_or known number None)
    → more ≡ homes ++ option_to_list home → map part_of more ≡ homes_from 0 (take (number + 1) known)
gathered_more old known homes more home number low are below found is =
    ap (map part_of) is
    ∙ map-append part_of homes (option_to_list home)
    ∙ ap (λ hs. hs ++ map part_of (option_to_list home)) (are ∙ ap (homes_from 0) (sym below))
    ∙ ap (λ hs. homes_from 0 (take number known) ++ hs) (as_list home ∙ ap option_to_list found)
    ∙ sym (homes_more known number low)
  where
    as_list : (home : Option Home) → map part_of (option_to_list home) ≡ option_to_list (option_map part_of home)
    as_list None = refl
    as_list (Some home) = refl
