-- One pass over the edges: where it stands, and what it has counted.
use Rattle.std.proofs.Common.{◌≡◌, ℕ, suc, ◌+◌, ◌-◌, ◌*◌, ◌/◌, ◌%◌, ◌<◌, ◌≤◌, Bool, true, false, not, inl, inr, List, [], ◌∷◌, length, drop, refl, sym, ◌∙◌, ap, cond, get_or, arith, drop-cons, subst}
use Rattle.std.proofs.lemmas.Bool.{cases_lt}
use Rattle.std.proofs.Math.Seq.{drop-length}
use Rattle.hq_copies.specs.Edges.{has, IsRising, spans}
use Rattle.hq_copies.specs.Copies.{count_below}
use Rattle.hq_copies.proofs.Edges.{has_before, has_from, none_before, lower}
use Rattle.hq_copies.proofs.Counts.{flipped, flipped_not, flipped_false, spans_before, spans_from, spans_count}

-- i edges are passed, the last of them is from, and the count is that of the numbers below from
pub record Passed (edges : List ℕ) (number i : ℕ) (inside : Bool) (from count : ℕ) : Type 0 where
  pub rising : IsRising from (drop i edges)
  pub held : flipped inside (has (drop i edges) number) ≡ has edges number
  pub counted : count + spans inside from (drop i edges) number ≡ count_below (has edges) number
  pub at : from ≤ number
  pub small : count ≤ from

passed_none : (edges : List ℕ) (number : ℕ) → IsRising 0 edges → Passed edges number 0 false 0 0
passed_none edges number r = record { rising = r; held = refl; counted = omega (arith, spans_count edges number r); at = omega arith; small = omega arith }

split : (edges : List ℕ) (i : ℕ) → i < length edges → drop i edges ≡ get_or edges i 0 ∷ drop (i + 1) edges
split edges i l = let e : suc i ≡ i + 1 = omega arith in drop-cons edges i 0 l ∙ ap (λ k. get_or edges i 0 ∷ drop k edges) e

passed_one : (edges : List ℕ) (number i : ℕ) (inside : Bool) (from count more : ℕ) → i < length edges → get_or edges i 0 ≤ number → more ≡ cond inside (get_or edges i 0 - from) 0 → more ≤ get_or edges i 0 - from → Passed edges number i inside from count → Passed edges number (i + 1) (not inside) (get_or edges i 0) (count + more)
passed_one edges number i inside from count more l le e small p =
    let rest : List ℕ = drop (i + 1) edges in
    let x : ℕ = get_or edges i 0 in
    let s : drop i edges ≡ x ∷ rest = split edges i l in
    let r : IsRising from (x ∷ rest) = subst (IsRising from) s p.rising in
    let a : spans inside from (drop i edges) number ≡ cond inside (x - from) 0 + spans (not inside) x rest number = ap (λ t. spans inside from t number) s ∙ spans_from inside from x rest number le in
    record {
      rising = lower x (suc x) rest r.1 (omega arith);
      held = flipped_not inside (has rest number) ∙ ap (flipped inside) (sym (has_from x rest number le) ∙ ap (λ t. has t number) (sym s)) ∙ p.held;
      counted = omega (arith, a, e, p.counted);
      at = le;
      small = omega (arith, small, p.small, r.0);
    }

-- the next edge is beyond the number
found_before : (edges : List ℕ) (number i : ℕ) (inside : Bool) (from count more : ℕ) → i < length edges → number < get_or edges i 0 → more ≡ cond inside (number - from) 0 → Passed edges number i inside from count → (inside ≡ has edges number) × (count + more ≡ count_below (has edges) number)
found_before edges number i inside from count more l low e p =
    let rest : List ℕ = drop (i + 1) edges in
    let x : ℕ = get_or edges i 0 in
    let s : drop i edges ≡ x ∷ rest = split edges i l in
    let r : IsRising from (x ∷ rest) = subst (IsRising from) s p.rising in
    let a : spans inside from (drop i edges) number ≡ cond inside (number - from) 0 = ap (λ t. spans inside from t number) s ∙ spans_before inside from x rest number low in
    let n : has (drop i edges) number ≡ false = ap (λ t. has t number) s ∙ has_before x rest number low ∙ none_before (suc x) rest number r.1 (omega arith) in
    (sym (flipped_false inside) ∙ ap (flipped inside) (sym n) ∙ p.held, omega (arith, a, e, p.counted))

-- no edge is left
found_end : (edges : List ℕ) (number i : ℕ) (inside : Bool) (from count more : ℕ) → i ≡ length edges → more ≡ cond inside (number - from) 0 → Passed edges number i inside from count → (inside ≡ has edges number) × (count + more ≡ count_below (has edges) number)
found_end edges number i inside from count more l e p =
    let s : drop i edges ≡ [] = ap (λ k. drop k edges) l ∙ drop-length edges in
    let a : spans inside from (drop i edges) number ≡ cond inside (number - from) 0 = ap (λ t. spans inside from t number) s in
    let n : has (drop i edges) number ≡ false = ap (λ t. has t number) s in
    (sym (flipped_false inside) ∙ ap (flipped inside) (sym n) ∙ p.held, omega (arith, a, e, p.counted))

-- the next edge is beyond the number, or there is none
found : (edges : List ℕ) (number i : ℕ) (inside : Bool) (from count more : ℕ) → i ≤ length edges → (i < length edges → number + 1 ≤ get_or edges i 0) → more ≡ cond inside (number - from) 0 → Passed edges number i inside from count → (inside ≡ has edges number) × (count + more ≡ count_below (has edges) number)
found edges number i inside from count more l above e p = elim (cases_lt i (length edges)) [
  | inl low ↦ found_before edges number i inside from count more low (omega (arith, above low)) e p
  | inr high ↦ found_end edges number i inside from count more (omega arith) e p
]

-- ---- run after run

-- so many runs are passed
pub record RunsPassed (edges : List ℕ) (number runs count : ℕ) : Type 0 where
  pub from : ℕ
  pub passed : Passed edges number (2 * runs) false from count

pub runs_none : (edges : List ℕ) (number : ℕ) → IsRising 0 edges → RunsPassed edges number 0 0
runs_none edges number r = record { from = 0; passed = passed_none edges number r }

-- an edge is behind the last one that is passed
from_below : (edges : List ℕ) (number i : ℕ) (inside : Bool) (from count : ℕ) → i < length edges → Passed edges number i inside from count → from ≤ get_or edges i 0
from_below edges number i inside from count l p = let r = subst (IsRising from) (split edges i l) p.rising in r.0

pub runs_one : (edges : List ℕ) (number at runs count : ℕ) → at ≤ length edges → ((k : ℕ) → k < at → get_or edges k 0 < number + 1) → runs < at / 2 → RunsPassed edges number runs count
    → (get_or edges (2 * runs) 0 ≤ get_or edges (2 * runs + 1) 0) × (count + (get_or edges (2 * runs + 1) 0 - get_or edges (2 * runs) 0) ≤ number) × RunsPassed edges number (runs + 1) (count + (get_or edges (2 * runs + 1) 0 - get_or edges (2 * runs) 0))
runs_one edges number at runs count within below l p =
    let i : ℕ = 2 * runs in
    let x : ℕ = get_or edges i 0 in
    let y : ℕ = get_or edges (i + 1) 0 in
    let first : i < at = omega arith in
    let second : i + 1 < at = omega arith in
    let one = passed_one edges number i false p.from count 0 (omega arith) (omega (arith, below i first)) refl (omega arith) p.passed in
    let rises = from_below edges number (i + 1) true x (count + 0) (omega arith) one in
    let two = passed_one edges number (i + 1) true x (count + 0) (y - x) (omega arith) (omega (arith, below (i + 1) second)) refl (omega arith) one in
    let z : count + 0 + (y - x) ≡ count + (y - x) = omega arith in
    let n : i + 1 + 1 ≡ 2 * (runs + 1) = omega arith in
    (rises, omega (arith, two.small, two.at), record { from = y; passed = subst (λ k. Passed edges number k false y (count + (y - x))) n (subst (Passed edges number (i + 1 + 1) false y) z two) })

-- an even count of edges is passed
pub found_outside : (edges : List ℕ) (number at count : ℕ) → at ≤ length edges → (at < length edges → number + 1 ≤ get_or edges at 0) → at % 2 ≡ 0 → RunsPassed edges number (at / 2) count → (false ≡ has edges number) × (count ≡ count_below (has edges) number)
found_outside edges number at count within above even p =
    let n : 2 * (at / 2) ≡ at = omega (arith, even) in
    let q : Passed edges number at false p.from count = subst (λ k. Passed edges number k false p.from count) n p.passed in
    let done = found edges number at false p.from count 0 within above refl q in
    (done.0, omega (arith, done.1))

-- and an odd one
pub found_inside : (edges : List ℕ) (number at count : ℕ) → at ≤ length edges → ((k : ℕ) → k < at → get_or edges k 0 < number + 1) → (at < length edges → number + 1 ≤ get_or edges at 0) → at % 2 ≡ 1 → RunsPassed edges number (at / 2) count
    → (get_or edges (at - 1) 0 ≤ number) × (count + (number - get_or edges (at - 1) 0) ≤ number) × (true ≡ has edges number) × (count + (number - get_or edges (at - 1) 0) ≡ count_below (has edges) number)
found_inside edges number at count within below above odd p =
    let n : 2 * (at / 2) ≡ at - 1 = omega (arith, odd) in
    let i : ℕ = at - 1 in
    let x : ℕ = get_or edges i 0 in
    let q : Passed edges number i false p.from count = subst (λ k. Passed edges number k false p.from count) n p.passed in
    let low = below i (omega (arith, odd)) in
    let one = passed_one edges number i false p.from count 0 (omega (arith, odd)) (omega (arith, low)) refl (omega arith) q in
    let m : i + 1 ≡ at = omega (arith, odd) in
    let here : Passed edges number at true x (count + 0) = subst (λ k. Passed edges number k true x (count + 0)) m one in
    let done = found edges number at true x (count + 0) (number - x) within above refl here in
    (omega (arith, low), omega (arith, low, here.small), done.0, omega (arith, done.1))
