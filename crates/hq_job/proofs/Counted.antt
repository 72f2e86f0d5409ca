-- Counters, one for each key, as they go along a list: they count from the numbers that they begin with.
use Rattle.std.proofs.Common.{◌≡◌, ℕ, ◌+◌, ◌<◌, ◌≤◌, inl, inr, List, length, refl, sym, ◌∙◌, ap, subst, arith, cond, ◌==◌, Some, slice_get, slice_index, slice_index_or, slice_set, All, map, take, length-append}
use Rattle.std.proofs.lemmas.Bool.{cases_eq, cond-true, cond-false, eq-eqb, ne_eqb}
use Rattle.std.proofs.lemmas.List.{get_or-map, length-map, length-take, get_or-set_other, length-set}
use Rattle.std.proofs.lemmas.List.Filters.{length-filter_more}
use Rattle.std.proofs.lemmas.Grind.{get_or-set_at, get_or_default_zero}
use Rattle.std.proofs.lemmas.Option.{slice_get_read}
use Rattle.hq_model.specs.Journal.{numbers}
use Rattle.hq_model.proofs.Places.{length_numbers, number_at}
use Rattle.hq_job.specs.Numbering.{with_key, grouped, number_of}
use Rattle.hq_job.proofs.Grouped.{key_at, number_below, grouped_most, grouped_next}

-- of the first i
pub record CountedFrom {X : Type 0} (base : ℕ → ℕ) (key : X → ℕ) (n : ℕ) (xs : List X) (i : ℕ) (next : List ℕ) : Type 0 where
  pub count : length next ≡ n
  pub each : (q : ℕ) → q < n → slice_index next q ≡ base q + length (with_key key (take i xs) q)

-- of counters that give each place of the list its number among the grouped
abbrev pub Counted : {X : Type 0} → (X → ℕ) → ℕ → List X → ℕ → List ℕ → Type 0
Counted key n xs i next = CountedFrom (λ q. length (grouped key q xs)) key n xs i next

pub counted_none : {X : Type 0} (key : X → ℕ) (n : ℕ) (xs : List X) (next : List ℕ) → next ≡ map (λ q. length (grouped key q xs)) (numbers n) → Counted key n xs 0 next
counted_none key n xs next e =
    record {
      count = ap length e ∙ length-map (numbers n) (λ q. length (grouped key q xs)) ∙ length_numbers n;
      each = λ q l.
          let at : slice_index next q ≡ length (grouped key q xs) = ap (λ ys. slice_index ys q) e ∙ get_or-map (λ q. length (grouped key q xs)) (numbers n) q 0 0 (omega (arith, length_numbers n)) ∙ ap (λ m. length (grouped key m xs)) (number_at n q 0 l) in
          omega (arith, at);
    }

-- the counter of the next place's key is its number
pub counted_number : {X : Type 0} (key : X → ℕ) (n : ℕ) (xs : List X) (i : ℕ) (next : List ℕ) (x : X) (v : ℕ) → Counted key n xs i next → i < length xs → x ≡ slice_index_or xs i x → key x < n → v ≡ slice_index_or next (key x) v → v ≡ number_of key xs i
counted_number key n xs i next x v c l at low read =
    let there : slice_get xs i ≡ Some x = slice_get_read xs (length xs) i x refl l at in
    read ∙ get_or_default_zero next (key x) v (omega (arith, c.count)) ∙ c.each (key x) low ∙ sym (ap (λ q. length (grouped key q xs) + length (with_key key (take i xs) q)) (key_at key xs i x there))

-- numbers are below the count
pub number_few : {X : Type 0} (key : X → ℕ) (n : ℕ) (xs : List X) (i : ℕ) (x : X) → i < length xs → x ≡ slice_index_or xs i x → key x < n → number_of key xs i < length xs
number_few key n xs i x l at low =
    let there : slice_get xs i ≡ Some x = slice_get_read xs (length xs) i x refl l at in
    omega (arith, number_below key n xs i x there low, grouped_most key n xs)

-- of each key there are no more than all
pub keyed_most : {X : Type 0} (key : X → ℕ) (xs : List X) (q : ℕ) → length (with_key key xs q) ≤ length xs
keyed_most key xs q = omega (arith, ap length (grouped_next key q xs), length-append (grouped key q xs) (with_key key xs q), grouped_most key (q + 1) xs)

-- a counter that counts from 0 is small
pub counted_few : {X : Type 0} (key : X → ℕ) (n : ℕ) (xs : List X) (i : ℕ) (next : List ℕ) (q v : ℕ) → CountedFrom (λ _. 0) key n xs i next → q < n → v ≡ slice_index_or next q v → v ≤ length xs
counted_few key n xs i next q v c low read =
    let is : v ≡ slice_index next q = read ∙ get_or_default_zero next q v (omega (arith, c.count)) in
    omega (arith, is, c.each q low, keyed_most key (take i xs) q, length-take i xs)

-- one place further
pub counted_more : {X : Type 0} (base : ℕ → ℕ) (key : X → ℕ) (n : ℕ) (xs : List X) (i : ℕ) (next : List ℕ) (x : X) (v : ℕ) → CountedFrom base key n xs i next → i < length xs → x ≡ slice_index_or xs i x → key x < n → v ≡ slice_index_or next (key x) v → CountedFrom base key n xs (i + 1) (slice_set next (key x) (v + 1))
counted_more base key n xs i next x v c l at low read =
    record {
      count = length-set next (key x) (v + 1) ∙ c.count;
      each = λ q below.
          let more : length (with_key key (take (i + 1) xs) q) ≡ length (with_key key (take i xs) q) + cond (key (slice_index_or xs i x) == q) 1 0 = length-filter_more (λ y. key y == q) xs i x l in
          let same : cond {A = ℕ} (key (slice_index_or xs i x) == q) 1 0 ≡ cond {A = ℕ} (key x == q) 1 0 = ap (λ y. cond {A = ℕ} (key y == q) 1 0) (sym at) in
          elim (cases_eq q (key x)) [
            | inl e ↦
                let one : cond {A = ℕ} (key x == q) 1 0 ≡ 1 = cond-true (key x == q) 1 0 (eq-eqb (key x) q (sym e)) in
                let set : slice_index (slice_set next (key x) (v + 1)) q ≡ v + 1 = get_or-set_at next (key x) q (v + 1) 0 e (omega (arith, c.count)) in
                let value : v ≡ slice_index next (key x) = read ∙ get_or_default_zero next (key x) v (omega (arith, c.count)) in
                let was : slice_index next (key x) ≡ slice_index next q = ap (slice_index next) (sym e) in
                omega (arith, set, value, was, c.each q below, more, same, one)
            | inr d ↦
                let none : cond {A = ℕ} (key x == q) 1 0 ≡ 0 = cond-false (key x == q) 1 0 (ne_eqb (key x) q (λ e. d (sym e))) in
                let set : slice_index (slice_set next (key x) (v + 1)) q ≡ slice_index next q = get_or-set_other next (key x) q (v + 1) 0 d in
                omega (arith, set, c.each q below, more, same, none)
          ];
    }

-- what holds of all holds of the one at this place
pub all_here : {X : Type 0} (P : X → Type 0) (xs : List X) (i : ℕ) (x : X) → All P xs → i < length xs → x ≡ slice_index_or xs i x → P x
all_here P xs i x all l at = subst P (sym at) (all i x l)
