-- Edges with a range of numbers put in: those before it, its own, and those behind it.
use Rattle.std.proofs.Common.{◌≡◌, ◌⊎◌, ℕ, zero, suc, ◌+◌, ◌%◌, ◌<◌, ◌≤◌, Bool, true, false, not, inl, inr, List, [], ◌∷◌, ◌++◌, length, take, drop, refl, sym, ◌∙◌, ap, subst, get_or, arith}
use Rattle.std.proofs.lemmas.Bool.{cases_lt}
use Rattle.std.proofs.lemmas.List.{take-append-drop, append_assoc}
use Rattle.hq_copies.specs.Edges.{has, IsRising, is_odd, unless, Covered}
use Rattle.hq_copies.proofs.Edges.{not_not, has_before, has_from, none_before, lower}
use Rattle.hq_copies.proofs.Counts.{flipped, flipped_false}

-- ---- edges behind others

not_flipped : (a b : Bool) → not (flipped a b) ≡ flipped (not a) b
not_flipped true b = not_not b
not_flipped false b = refl

has_joined : (xs ys : List ℕ) (n : ℕ) → has (xs ++ ys) n ≡ flipped (has xs n) (has ys n)
has_joined [] ys n = refl
has_joined (x ∷ xs) ys n = elim (cases_lt n x) [
  | inl low ↦ has_before x (xs ++ ys) n low ∙ has_joined xs ys n ∙ ap (λ t. flipped t (has ys n)) (sym (has_before x xs n low))
  | inr from ↦ has_from x (xs ++ ys) n from ∙ ap not (has_joined xs ys n) ∙ not_flipped (has xs n) (has ys n) ∙ ap (λ t. flipped t (has ys n)) (sym (has_from x xs n from))
]

odd_joined : (xs ys : List ℕ) → is_odd (xs ++ ys) ≡ flipped (is_odd xs) (is_odd ys)
odd_joined [] ys = refl
odd_joined (x ∷ xs) ys = ap not (odd_joined xs ys) ∙ not_flipped (is_odd xs) (is_odd ys)

-- behind all edges their number decides
has_all : (edges : List ℕ) (k m n : ℕ) → ((j : ℕ) → j < k → get_or edges j 0 < m) → m ≤ suc n → k ≤ length edges → has (take k edges) n ≡ is_odd (take k edges)
has_all [] zero m n low l h = refl
has_all [] (suc k) m n low l h = absurd (omega arith)
has_all (e ∷ edges) zero m n low l h = refl
has_all (e ∷ edges) (suc k) m n low l h = has_from e (take k edges) n (omega (arith, low 0 (omega arith))) ∙ ap not (has_all edges k m n (λ j i. low (suc j) (omega arith)) l (omega arith))

rising_drop : (edges : List ℕ) (k from m : ℕ) → IsRising from edges → (k < length edges → m ≤ get_or edges k 0) → IsRising m (drop k edges)
rising_drop [] zero from m r high = tt
rising_drop [] (suc k) from m r high = tt
rising_drop (e ∷ edges) zero from m r high = (high (omega arith), r.1)
rising_drop (e ∷ edges) (suc k) from m r high = rising_drop edges k (suc e) m r.1 (λ h. high (omega arith))

rising_take : (edges : List ℕ) (k from m : ℕ) (ys : List ℕ) → IsRising from edges → ((j : ℕ) → j < k → get_or edges j 0 < m) → from ≤ m → IsRising m ys → k ≤ length edges → IsRising from (take k edges ++ ys)
rising_take [] zero from m ys r low l s h = lower from m ys s l
rising_take [] (suc k) from m ys r low l s h = absurd (omega arith)
rising_take (e ∷ edges) zero from m ys r low l s h = lower from m ys s l
rising_take (e ∷ edges) (suc k) from m ys r low l s h = (r.0, rising_take edges k (suc e) m ys r.1 (λ j i. low (suc j) (omega arith)) (omega (arith, low 0 (omega arith))) s (omega arith))

-- ---- an edge that is there or not

unless_before : (t : Bool) (p n : ℕ) → n < p → has (unless t p) n ≡ false
unless_before true p n l = refl
unless_before false p n l = has_before p [] n l

unless_from : (t : Bool) (p n : ℕ) → p ≤ n → flipped t (has (unless t p) n) ≡ true
unless_from true p n l = refl
unless_from false p n l = has_from p [] n l

unless_turns : (t : Bool) (p n : ℕ) → p ≤ n → flipped true (has (unless t p) n) ≡ t
unless_turns true p n l = refl
unless_turns false p n l = ap not (has_from p [] n l)

unless_odd : (t : Bool) (p : ℕ) → flipped t (is_odd (unless t p)) ≡ true
unless_odd true p = refl
unless_odd false p = refl

unless_even : (t : Bool) (p : ℕ) → flipped true (is_odd (unless t p)) ≡ t
unless_even true p = refl
unless_even false p = refl

unless_rising : (t : Bool) (p : ℕ) (ys : List ℕ) → IsRising (suc p) ys → IsRising p (unless t p ++ ys)
unless_rising true p ys r = lower p (suc p) ys r (omega arith)
unless_rising false p ys r = (omega arith, r)

-- ---- all four parts

has_four : (xs ys zs ws : List ℕ) (n : ℕ) → has (xs ++ ys ++ zs ++ ws) n ≡ flipped (flipped (flipped (has xs n) (has ys n)) (has zs n)) (has ws n)
has_four xs ys zs ws n =
    has_joined (xs ++ ys ++ zs) ws n
    ∙ ap (λ t. flipped t (has ws n)) (has_joined (xs ++ ys) zs n ∙ ap (λ t. flipped t (has zs n)) (has_joined xs ys n))

odd_four : (xs ys zs ws : List ℕ) → is_odd (xs ++ ys ++ zs ++ ws) ≡ flipped (flipped (flipped (is_odd xs) (is_odd ys)) (is_odd zs)) (is_odd ws)
odd_four xs ys zs ws =
    odd_joined (xs ++ ys ++ zs) ws
    ∙ ap (λ t. flipped t (is_odd ws)) (odd_joined (xs ++ ys) zs ∙ ap (λ t. flipped t (is_odd zs)) (odd_joined xs ys))

-- a edges are below start, and b are at most end
pub record Placed (edges : List ℕ) (start end a b : ℕ) : Type 0 where
  pub first : a ≤ length edges
  pub low : (k : ℕ) → k < a → get_or edges k 0 < start
  pub from : a < length edges → start ≤ get_or edges a 0
  pub last : b ≤ length edges
  pub within : (k : ℕ) → k < b → get_or edges k 0 < end + 1
  pub high : b < length edges → end + 1 ≤ get_or edges b 0

pub covered : (edges : List ℕ) (start end a b : ℕ) (new : List ℕ) → IsRising 0 edges → start < end → Placed edges start end a b
    → new ≡ take a edges ++ unless (is_odd (take a edges)) start ++ unless (is_odd (take b edges)) end ++ drop b edges → Covered edges start end new
covered edges start end a b new r l p e = subst (Covered edges start end) (sym e) (record {
  rising = subst (IsRising 0) (sym (append_assoc (xs ++ ys) zs ws ∙ append_assoc xs ys (zs ++ ws)))
      (rising_take edges a 0 start (ys ++ (zs ++ ws)) r p.low (omega arith)
      (unless_rising o start (zs ++ ws) (lower (suc start) end (zs ++ ws) (unless_rising u end ws behind) (omega arith))) p.first);
  odd = odd_four xs ys zs ws
      ∙ ap (λ t. flipped (flipped t (is_odd zs)) (is_odd ws)) (unless_odd o start)
      ∙ ap (λ t. flipped t (is_odd ws)) (unless_even u end)
      ∙ sym (odd_joined (take b edges) ws)
      ∙ ap is_odd (take-append-drop b edges);
  below = λ n h.
      has_four xs ys zs ws n
      ∙ ap (λ t. flipped (flipped (flipped (has xs n) t) (has zs n)) (has ws n)) (unless_before o start n h)
      ∙ ap (λ t. flipped (flipped (flipped (has xs n) false) t) (has ws n)) (unless_before u end n (omega arith))
      ∙ ap (λ t. flipped (flipped (flipped (has xs n) false) false) t) (none_before (suc end) ws n behind (omega arith))
      ∙ flipped_false (flipped (flipped (has xs n) false) false)
      ∙ flipped_false (flipped (has xs n) false)
      ∙ ap (flipped (has xs n)) (sym (none_before start (drop a edges) n (rising_drop edges a 0 start r p.from) h))
      ∙ sym (has_joined xs (drop a edges) n)
      ∙ ap (λ t. has t n) (take-append-drop a edges);
  within = λ n h i.
      has_four xs ys zs ws n
      ∙ ap (λ t. flipped (flipped t (has zs n)) (has ws n)) (begun n h)
      ∙ ap (λ t. flipped (flipped true t) (has ws n)) (unless_before u end n i)
      ∙ ap (λ t. flipped (flipped true false) t) (none_before (suc end) ws n behind (omega arith));
  past = λ n h.
      has_four xs ys zs ws n
      ∙ ap (λ t. flipped (flipped t (has zs n)) (has ws n)) (begun n (omega arith))
      ∙ ap (λ t. flipped t (has ws n)) (unless_turns u end n h ∙ sym (has_all edges b (end + 1) n p.within (omega arith) p.last))
      ∙ sym (has_joined (take b edges) ws n)
      ∙ ap (λ t. has t n) (take-append-drop b edges);
})
  where
    o : Bool
    o = is_odd (take a edges)

    u : Bool
    u = is_odd (take b edges)

    xs : List ℕ
    xs = take a edges

    ys : List ℕ
    ys = unless (is_odd (take a edges)) start

    zs : List ℕ
    zs = unless (is_odd (take b edges)) end

    ws : List ℕ
    ws = drop b edges

    behind : IsRising (suc end) (drop b edges)
    behind = rising_drop edges b 0 (suc end) r (λ h. omega (arith, p.high h))

    begun : (n : ℕ) → start ≤ n → flipped (has (take a edges) n) (has (unless (is_odd (take a edges)) start) n) ≡ true
    begun n h = ap (λ t. flipped t (has (unless (is_odd (take a edges)) start) n)) (has_all edges a start n p.low (omega arith) p.first) ∙ unless_from (is_odd (take a edges)) start n h

-- ---- an even count of edges

parity : (xs : List ℕ) → ((is_odd xs ≡ true) × (length xs % 2 ≡ 1)) ⊎ ((is_odd xs ≡ false) × (length xs % 2 ≡ 0))
parity [] = inr (refl, refl)
parity (x ∷ xs) = elim (parity xs) [
  | inl odd ↦ inr (ap not odd.0, omega (arith, odd.1))
  | inr even ↦ inl (ap not even.0, omega (arith, even.1))
]

pub even_is : (xs : List ℕ) → length xs % 2 ≡ 0 → is_odd xs ≡ false
even_is xs e = elim (parity xs) [
  | inl odd ↦ absurd (omega (arith, odd.1, e))
  | inr even ↦ even.0
]

pub odd_is : (xs : List ℕ) → (length xs % 2 ≡ 0 → ⊥) → is_odd xs ≡ true
odd_is xs d = elim (parity xs) [
  | inl odd ↦ odd.0
  | inr even ↦ absurd (d even.1)
]

-- ---- edges rise from place to place

at_least : (edges : List ℕ) (from j e : ℕ) → IsRising from edges → e ≤ from → j < length edges → e ≤ get_or edges j 0
at_least [] from j e r l h = absurd (omega arith)
at_least (x ∷ xs) from zero e r l h = omega (arith, r.0)
at_least (x ∷ xs) from (suc j) e r l h = at_least xs (suc x) j e r.1 (omega (arith, r.0)) (omega arith)

pub rises : (edges : List ℕ) (from i j : ℕ) → IsRising from edges → i ≤ j → j < length edges → get_or edges i 0 ≤ get_or edges j 0
rises [] from i j r l h = absurd (omega arith)
rises (e ∷ edges) from zero zero r l h = omega arith
rises (e ∷ edges) from (suc i) zero r l h = absurd (omega arith)
rises (e ∷ edges) from zero (suc j) r l h = at_least edges (suc e) j e r.1 (omega arith) (omega arith)
rises (e ∷ edges) from (suc i) (suc j) r l h = rises edges (suc e) i j r.1 (omega arith) (omega arith)
