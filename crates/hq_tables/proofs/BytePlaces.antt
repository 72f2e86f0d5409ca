-- The places of addresses.
use Rattle.std.proofs.Common.{◌≡◌, ◌≢◌, ℕ, zero, suc, ◌+◌, ◌-◌, ◌<◌, ◌≤◌, ◌==◌, ◌⊎◌, inl, inr, Bool, true, false, cond, List, [], ◌∷◌, ◌++◌, length, get_or, drop, Option, Some, None, refl, sym, ap, ◌∙◌, arith, add-one, drop-cons}
use Rattle.std.specs.Prelude.{position}
use Rattle.std.specs.List.{range_with_len}
use Rattle.std.specs.Option.{option_map}
use Rattle.std.proofs.Math.ListN.{drop_of_length-le}
use Rattle.std.proofs.lemmas.List.FromFn.{length-range_with_len}
use Rattle.std.proofs.lemmas.List.Sums.{sum_by-cons}
use Rattle.std.proofs.lemmas.Bool.Decides.{eqb_tells}
use Rattle.hq_tables.specs.declared.rows.Block.{Block}
use Rattle.hq_tables.specs.Blocks.{Bytes}
use Rattle.hq_tables.specs.Blocks.{bytes_of, blocks_of}
use Rattle.hq_tables.specs.Tables.{addresses, byte_number, total_of}
use Rattle.hq_tables.proofs.Found.{position-cons}

-- ---- the place in lists end to end

abbrev orElse : Option ℕ → ℕ → Option ℕ → Option ℕ
orElse (Some k) n other = Some k
orElse None n other = option_map (λ k. n + k) other

zero_more : (o : Option ℕ) → o ≡ option_map (λ k. 0 + k) o
zero_more None = refl
zero_more (Some k) = let e : k ≡ 0 + k = omega arith in ap (λ n. Some n) e

suc_more : (n : ℕ) (o : Option ℕ) → option_map (λ k. suc k) (option_map (λ k. n + k) o) ≡ option_map (λ k. suc n + k) o
suc_more n None = refl
suc_more n (Some k) = let e : suc (n + k) ≡ suc n + k = omega arith in ap (λ m. Some m) e

step_on : (b : Bool) (here : Option ℕ) (n : ℕ) (other : Option ℕ) → cond b (Some 0) (option_map (λ k. suc k) (orElse here n other)) ≡ orElse (cond b (Some 0) (option_map (λ k. suc k) here)) (suc n) other
step_on true here n other = refl
step_on false (Some k) n other = refl
step_on false None n other = suc_more n other

position-append : {X : Type 0} (p : X → Bool) (xs ys : List X) → position p (xs ++ ys) ≡ orElse (position p xs) (length xs) (position p ys)
position-append p [] ys = zero_more (position p ys)
position-append p (x ∷ xs) ys =
    position-cons p x (xs ++ ys) ∙ ap (λ o. cond (p x) (Some 0) (option_map (λ k. suc k) o)) (position-append p xs ys)
    ∙ step_on (p x) (position p xs) (length xs) (position p ys) ∙ ap (λ o. orElse o (suc (length xs)) (position p ys)) (sym (position-cons p x xs))

-- ---- the place in a range

in_step : (o : Option ℕ) (at a : ℕ) → at ≤ a → (at + 1 ≤ a → o ≡ Some (a - (at + 1))) → cond (at == a) (Some 0) (option_map (λ k. suc k) o) ≡ Some (a - at)
in_step o at a low rest = elim (eqb_tells at a) [
  | inl h ↦ rw h.0 (let e : 0 ≡ a - at = omega (arith, h.1) in ap (λ k. Some k) e)
  | inr h ↦ (let tail = rest (omega (arith, h.1)) in rw (h.0, tail) (let e : suc (a - (at + 1)) ≡ a - at = omega (arith, h.1) in ap (λ k. Some k) e))
]

place_in : (len at a : ℕ) → at ≤ a → a < at + len → position (λ x. x == a) (range_with_len at len) ≡ Some (a - at)
place_in zero at a low high = absurd (omega arith)
place_in (suc n) at a low high = position-cons (λ x. x == a) at (range_with_len (at + 1) n) ∙ in_step (position (λ x. x == a) (range_with_len (at + 1) n)) at a low (λ l. place_in n (at + 1) a l (omega arith))

out_step : (o : Option ℕ) (at a : ℕ) → at ≢ a → o ≡ None → cond (at == a) (Some 0) (option_map (λ k. suc k) o) ≡ None
out_step o at a apart none = elim (eqb_tells at a) [ inl h ↦ absurd (apart h.1) | inr h ↦ rw (h.0, none) refl ]

below_out : (len at a : ℕ) → a < at → position (λ x. x == a) (range_with_len at len) ≡ None
below_out zero at a out = refl
below_out (suc n) at a out = position-cons (λ x. x == a) at (range_with_len (at + 1) n) ∙ out_step (position (λ x. x == a) (range_with_len (at + 1) n)) at a (λ e. omega arith) (below_out n (at + 1) a (omega arith))

above_out : (len at a : ℕ) → at + len ≤ a → position (λ x. x == a) (range_with_len at len) ≡ None
above_out zero at a out = refl
above_out (suc n) at a out = position-cons (λ x. x == a) at (range_with_len (at + 1) n) ∙ out_step (position (λ x. x == a) (range_with_len (at + 1) n)) at a (λ e. omega arith) (above_out n (at + 1) a (omega arith))

place_out : (len at a : ℕ) → (a < at) ⊎ (at + len ≤ a) → position (λ x. x == a) (range_with_len at len) ≡ None
place_out len at a (inl out) = below_out len at a out
place_out len at a (inr out) = above_out len at a out

-- ---- the number of a byte

here : (b : Bytes) (bs : List Bytes) (a : ℕ) → b.at ≤ a → a - b.at < length b.bytes → byte_number (b ∷ bs) a ≡ Some (a - b.at)
here b bs a low high =
    let place = place_in (length b.bytes) b.at a low (omega arith) in
    position-append (λ x. x == a) (range_with_len b.at (length b.bytes)) (addresses bs) ∙ rw place refl

there : (b : Bytes) (bs : List Bytes) (a : ℕ) → (a < b.at) ⊎ (b.at + length b.bytes ≤ a) → byte_number (b ∷ bs) a ≡ option_map (λ k. length b.bytes + k) (byte_number bs a)
there b bs a out =
    let place = place_out (length b.bytes) b.at a out in
    position-append (λ x. x == a) (range_with_len b.at (length b.bytes)) (addresses bs) ∙ rw (place, length-range_with_len) refl

added_twice : (m n : ℕ) (o : Option ℕ) → option_map (λ k. m + k) (option_map (λ k. n + k) o) ≡ option_map (λ k. m + n + k) o
added_twice m n None = refl
added_twice m n (Some k) = let e : m + (n + k) ≡ m + n + k = omega arith in ap (λ i. Some i) e

-- one turn of the loop over the buffers, at the i-th
module _ (xs : List Block) (i : ℕ) (x : Block) (before a : ℕ) (lt : i < length xs) (is : x ≡ get_or xs i x)
    (place : option_map (λ k. before + k) (byte_number (blocks_of (drop i xs)) a) ≡ byte_number (blocks_of xs) a) where
  cut : drop i xs ≡ x ∷ drop (i + 1) xs
  cut = drop-cons xs i x lt ∙ ap (λ y. y ∷ drop (suc i) xs) (sym is) ∙ ap (λ n. x ∷ drop n xs) (sym (add-one i))

  pub turn_found : x.at ≤ a → a - x.at < length x.bytes.items → Some (before + (a - x.at)) ≡ byte_number (blocks_of xs) a
  turn_found low high =
      ap (option_map (λ k. before + k)) (sym (ap (λ ys. byte_number (blocks_of ys) a) cut ∙ here (bytes_of x) (blocks_of (drop (i + 1) xs)) a low high)) ∙ place

  pub turn_on : (a < x.at) ⊎ (x.at + length x.bytes.items ≤ a) → option_map (λ k. before + length x.bytes.items + k) (byte_number (blocks_of (drop (i + 1) xs)) a) ≡ byte_number (blocks_of xs) a
  turn_on out =
      sym (added_twice before (length x.bytes.items) (byte_number (blocks_of (drop (i + 1) xs)) a))
      ∙ ap (option_map (λ k. before + k)) (sym (ap (λ ys. byte_number (blocks_of ys) a) cut ∙ there (bytes_of x) (blocks_of (drop (i + 1) xs)) a out)) ∙ place

pub total_cut : (xs : List Block) (i : ℕ) (x : Block) → i < length xs → x ≡ get_or xs i x → total_of (blocks_of (drop i xs)) ≡ length x.bytes.items + total_of (blocks_of (drop (i + 1) xs))
total_cut xs i x lt is =
    ap (λ ys. total_of (blocks_of ys)) (drop-cons xs i x lt ∙ ap (λ y. y ∷ drop (suc i) xs) (sym is) ∙ ap (λ n. x ∷ drop n xs) (sym (add-one i)))
    ∙ sum_by-cons (λ (b : Bytes). length b.bytes) (bytes_of x) (blocks_of (drop (i + 1) xs))

pub none_left : (xs : List Block) (i before a : ℕ) → length xs ≤ i → option_map (λ k. before + k) (byte_number (blocks_of (drop i xs)) a) ≡ byte_number (blocks_of xs) a → None ≡ byte_number (blocks_of xs) a
none_left xs i before a le place = ap (λ ys. option_map (λ k. before + k) (byte_number (blocks_of ys) a)) (sym (drop_of_length-le xs le)) ∙ place
