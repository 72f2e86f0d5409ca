-- Sets of numbers by their edges: what a turn at an edge does, and where a set begins and ends.
use Rattle.std.proofs.Common.{◌≡◌, ℕ, zero, suc, ◌+◌, ◌<◌, ◌≤◌, ◌≢◌, Bool, true, false, not, inl, inr, List, [], ◌∷◌, length, refl, sym, ◌∙◌, ap, cond, eqb, ltb, get_or, arith}
use Rattle.std.proofs.lemmas.Bool.{cases_lt, cases_order, cond-true, cond-false, lt-ltb, le-ltb, eq-eqb, ne_eqb}
use Rattle.std.specs.List.{insert, remove}
use Rattle.hq_copies.specs.Edges.{has, IsRising, is_odd, toggled, ceiling}

pub not_not : (b : Bool) → not (not b) ≡ b
not_not true = refl
not_not false = refl

pub has_before : (e : ℕ) (edges : List ℕ) (n : ℕ) → n < e → has (e ∷ edges) n ≡ has edges n
has_before e edges n l = cond-true (ltb n e) (has edges n) (not (has edges n)) (lt-ltb n e l)

pub has_from : (e : ℕ) (edges : List ℕ) (n : ℕ) → e ≤ n → has (e ∷ edges) n ≡ not (has edges n)
has_from e edges n l = cond-false (ltb n e) (has edges n) (not (has edges n)) (le-ltb n e l)

-- nothing before the first edge
pub none_before : (from : ℕ) (edges : List ℕ) (n : ℕ) → IsRising from edges → n < from → has edges n ≡ false
none_before from [] n r l = refl
none_before from (e ∷ edges) n r l = has_before e edges n (omega (arith, r.0)) ∙ none_before (suc e) edges n r.1 (omega (arith, r.0))

-- beyond the last edge the number of edges decides
pub has_beyond : (edges : List ℕ) (n : ℕ) → ceiling edges ≤ n → has edges n ≡ is_odd edges
has_beyond [] n l = refl
has_beyond (e ∷ edges) n l = has_from e edges n (omega arith) ∙ ap not (has_beyond edges n (omega arith))

-- ---- a turn

at_equal : (e : ℕ) (edges : List ℕ) (p : ℕ) → e ≡ p → toggled p (e ∷ edges) ≡ edges
at_equal e edges p h = cond-true (eqb e p) edges (cond (ltb p e) (p ∷ e ∷ edges) (e ∷ toggled p edges)) (eq-eqb e p h)

at_below : (e : ℕ) (edges : List ℕ) (p : ℕ) → p < e → toggled p (e ∷ edges) ≡ p ∷ e ∷ edges
at_below e edges p h = cond-false (eqb e p) edges (cond (ltb p e) (p ∷ e ∷ edges) (e ∷ toggled p edges)) (ne_eqb e p (λ i. absurd (omega arith))) ∙ cond-true (ltb p e) (p ∷ e ∷ edges) (e ∷ toggled p edges) (lt-ltb p e h)

at_above : (e : ℕ) (edges : List ℕ) (p : ℕ) → e < p → toggled p (e ∷ edges) ≡ e ∷ toggled p edges
at_above e edges p h = cond-false (eqb e p) edges (cond (ltb p e) (p ∷ e ∷ edges) (e ∷ toggled p edges)) (ne_eqb e p (λ i. absurd (omega arith))) ∙ cond-false (ltb p e) (p ∷ e ∷ edges) (e ∷ toggled p edges) (le-ltb p e (omega arith))

-- numbers below the edge stay, those from it on are turned
pub toggled_before : (p : ℕ) (edges : List ℕ) (n : ℕ) → n < p → has (toggled p edges) n ≡ has edges n
toggled_before p [] n l = has_before p [] n l
toggled_before p (e ∷ edges) n l = elim (cases_order e p) [
  | inl same ↦ ap (λ t. has t n) (at_equal e edges p same) ∙ sym (has_before e edges n (omega arith))
  | inr d ↦ elim d [
    | inl low ↦ ap (λ t. has t n) (at_above e edges p low) ∙ elim (cases_lt n e) [
      | inl m ↦ has_before e (toggled p edges) n m ∙ toggled_before p edges n l ∙ sym (has_before e edges n m)
      | inr m ↦ has_from e (toggled p edges) n m ∙ ap not (toggled_before p edges n l) ∙ sym (has_from e edges n m)
    ]
    | inr high ↦ ap (λ t. has t n) (at_below e edges p high) ∙ has_before p (e ∷ edges) n l
  ]
]

pub toggled_from : (p : ℕ) (edges : List ℕ) (n : ℕ) → p ≤ n → has (toggled p edges) n ≡ not (has edges n)
toggled_from p [] n l = has_from p [] n l
toggled_from p (e ∷ edges) n l = elim (cases_order e p) [
  | inl same ↦ ap (λ t. has t n) (at_equal e edges p same) ∙ sym (ap not (has_from e edges n (omega arith)) ∙ not_not (has edges n))
  | inr d ↦ elim d [
    | inl low ↦ ap (λ t. has t n) (at_above e edges p low) ∙ has_from e (toggled p edges) n (omega arith) ∙ ap not (toggled_from p edges n l) ∙ sym (ap not (has_from e edges n (omega arith)))
    | inr high ↦ ap (λ t. has t n) (at_below e edges p high) ∙ has_from p (e ∷ edges) n l
  ]
]

pub lower : (low high : ℕ) (edges : List ℕ) → IsRising high edges → low ≤ high → IsRising low edges
lower low high [] r l = tt
lower low high (e ∷ edges) r l = (omega (arith, r.0), r.1)

pub toggled_rising : (p from : ℕ) (edges : List ℕ) → IsRising from edges → from ≤ p → IsRising from (toggled p edges)
toggled_rising p from [] r l = (l, tt)
toggled_rising p from (e ∷ edges) r l = elim (cases_order e p) [
  | inl same ↦ rw (at_equal e edges p same) (lower from (suc e) edges r.1 (omega (arith, r.0)))
  | inr d ↦ elim d [
    | inl low ↦ rw (at_above e edges p low) (r.0, toggled_rising p (suc e) edges r.1 (omega arith))
    | inr high ↦ rw (at_below e edges p high) (l, (omega arith, r.1))
  ]
]

pub toggled_odd : (p : ℕ) (edges : List ℕ) → is_odd (toggled p edges) ≡ not (is_odd edges)
toggled_odd p [] = refl
toggled_odd p (e ∷ edges) = elim (cases_order e p) [
  | inl same ↦ ap is_odd (at_equal e edges p same) ∙ sym (not_not (is_odd edges))
  | inr d ↦ elim d [
    | inl low ↦ ap is_odd (at_above e edges p low) ∙ ap not (toggled_odd p edges)
    | inr high ↦ ap is_odd (at_below e edges p high)
  ]
]

-- ---- a turn by the place of the first edge that isn't below

pub toggled_absent : (p i : ℕ) (edges : List ℕ) → i ≤ length edges → ((k : ℕ) → k < i → get_or edges k 0 < p) → (i < length edges → p < get_or edges i 0) → insert edges i p ≡ toggled p edges
toggled_absent p zero [] l low high = refl
toggled_absent p zero (e ∷ edges) l low high = sym (at_below e edges p (high (omega arith)))
toggled_absent p (suc i) [] l low high = absurd (omega arith)
toggled_absent p (suc i) (e ∷ edges) l low high =
    ap (λ t. e ∷ t) (toggled_absent p i edges (omega arith) (λ k h. low (suc k) (omega arith)) (λ h. high (omega arith))) ∙ sym (at_above e edges p (low 0 (omega arith)))

pub toggled_present : (p i : ℕ) (edges : List ℕ) → i < length edges → ((k : ℕ) → k < i → get_or edges k 0 < p) → get_or edges i 0 ≡ p → remove edges i ≡ toggled p edges
toggled_present p i [] l low same = absurd (omega arith)
toggled_present p zero (e ∷ edges) l low same = sym (at_equal e edges p same)
toggled_present p (suc i) (e ∷ edges) l low same =
    ap (λ t. e ∷ t) (toggled_present p i edges (omega arith) (λ k h. low (suc k) (omega arith)) same) ∙ sym (at_above e edges p (low 0 (omega arith)))

-- ---- one number turned: a turn at it and one at the next

pub turned_other : (edges : List ℕ) (b n : ℕ) → n ≢ b → has (toggled (b + 1) (toggled b edges)) n ≡ has edges n
turned_other edges b n d = elim (cases_order n b) [
  | inl same ↦ absurd (d same)
  | inr o ↦ elim o [
    | inl low ↦ toggled_before (b + 1) (toggled b edges) n (omega arith) ∙ toggled_before b edges n low
    | inr high ↦ toggled_from (b + 1) (toggled b edges) n (omega arith) ∙ ap not (toggled_from b edges n (omega arith)) ∙ not_not (has edges n)
  ]
]

pub turned_same : (edges : List ℕ) (b : ℕ) → has (toggled (b + 1) (toggled b edges)) b ≡ not (has edges b)
turned_same edges b = toggled_before (b + 1) (toggled b edges) b (omega arith) ∙ toggled_from b edges b (omega arith)

pub turned_rising : (edges : List ℕ) (b : ℕ) → IsRising 0 edges → IsRising 0 (toggled (b + 1) (toggled b edges))
turned_rising edges b r = toggled_rising (b + 1) 0 (toggled b edges) (toggled_rising b 0 edges r (omega arith)) (omega arith)

pub turned_odd : (edges : List ℕ) (b : ℕ) → is_odd edges ≡ false → is_odd (toggled (b + 1) (toggled b edges)) ≡ false
turned_odd edges b h = toggled_odd (b + 1) (toggled b edges) ∙ ap not (toggled_odd b edges) ∙ not_not (is_odd edges) ∙ h

-- an item that is known by its place
pub known : (xs : List ℕ) (i x : ℕ) → i < length xs → x ≡ get_or xs i x → get_or xs i 0 ≡ x
known [] i x l e = absurd (omega arith)
known (y ∷ ys) zero x l e = sym e
known (y ∷ ys) (suc i) x l e = known ys i x (omega arith) e
