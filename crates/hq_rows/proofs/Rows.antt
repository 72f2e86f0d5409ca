-- Rows of a matrix.
use Rattle.std.proofs.Common.{◌≡◌, ◌↔◌, ℕ, zero, suc, ◌+◌, ◌<◌, ◌≤◌, ◌⊎◌, inl, inr, List, [], ◌∷◌, length, sym, ◌∙◌, ap, subst, arith, true, false, slice_index_or, map, take, drop, ◌++◌}
use Rattle.std.proofs.lemmas.Grind.{common_steps}
use Rattle.std.specs.Global.{Vec}
use Rattle.std.proofs.lemmas.Bool.{cases_eq, cases_lt}
use Rattle.std.proofs.lemmas.List.{get_or_past, length-map}
use Rattle.hq_bits.specs.Bits.{has, Grown}
use Rattle.hq_rows.specs.Matrix.{row, Marks}
use Rattle.hq_bits.proofs.Words.{grown_same, past}

-- ---- rows

pub row_is : (rows : List (Vec ℕ)) (r : ℕ) (x : Vec ℕ) → r < length rows → x ≡ slice_index_or rows r x → row rows r ≡ x.items
row_is rows r x l is = inner rows r l is
  where
    inner : (rows : List (Vec ℕ)) (r : ℕ) → r < length rows → x ≡ slice_index_or rows r x → row rows r ≡ x.items
    inner [] r l is = absurd (omega arith)
    inner (y ∷ ys) zero l is = ap (λ v. v.items) (sym is)
    inner (y ∷ ys) (suc r) l is = inner ys r (omega arith) is

pub width_is : (rows : List (Vec ℕ)) (r words : ℕ) (x : Vec ℕ) → r < length rows → x ≡ slice_index_or rows r x → length (row rows r) ≡ words → words ≡ length x.items
width_is rows r words x l is w = sym w ∙ ap length (row_is rows r x l is)

-- ---- what a loop gathers

pub gather_more : (Old A B : Type 0) (P : ℕ → Type 0) (i : ℕ) → A ↔ (Old ⊎ ((m : ℕ) × (m < i) × P m)) → B ↔ (A ⊎ P i) → B ↔ (Old ⊎ ((m : ℕ) × (m < i + 1) × P m))
gather_more Old A B P i h g = (
  λ b. elim (g.0 b) [
    | inl a ↦ elim (h.0 a) [ inl o ↦ inl o | inr x ↦ inr (x.0, let l = x.1 in omega arith, x.2) ]
    | inr y ↦ inr (i, omega arith, y)
  ],
  λ t. elim t [
    | inl o ↦ g.1 (inl (h.1 (inl o)))
    | inr x ↦ elim (cases_eq x.0 i) [
      | inl e ↦ g.1 (inr (subst P e x.2))
      | inr d ↦ g.1 (inl (h.1 (inr (x.0, let l = x.1 in omega (arith, d), x.2))))
    ]
  ],
)

pub gather_skip : (Old A : Type 0) (P : ℕ → Type 0) (i : ℕ) → A ↔ (Old ⊎ ((m : ℕ) × (m < i) × P m)) → (P i → ⊥) → A ↔ (Old ⊎ ((m : ℕ) × (m < i + 1) × P m))
gather_skip Old A P i h ban = gather_more Old A A P i h (λ a. inl a, λ t. elim t [ inl a ↦ a | inr x ↦ absurd (ban x) ])

-- what a borrowed row is once it is given back
pub given_back : (len : ℕ) (old new : List ℕ) → length old ≡ len → length new ≡ length old → take len (new ++ drop (length new) old) ≡ new
given_back len old new e f = grind (arith, common_steps)

-- ---- a row among the rows

length_plain : (rows : List (Vec ℕ)) → length (map (λ v. v.items) rows) ≡ length rows
length_plain rows = length-map rows (λ v. v.items)

pub marked_below : (rows : List (Vec ℕ)) (p m : ℕ) → Marks rows p m → m < length rows
marked_below rows p m h = elim (cases_lt m (length rows)) [
  | inl low ↦ low
  | inr high ↦
      let none : row rows m ≡ [] = get_or_past (map (λ v. v.items) rows) m [] (omega (arith, length_plain rows)) in
      absurd (let x : true ≡ false = sym h ∙ ap (λ r. has r p) none ∙ past [] p (omega arith) in cc)
]

pub no_row : (rows : List (Vec ℕ)) (r : ℕ) → length rows ≤ r → row rows r ≡ []
no_row rows r l = get_or_past (map (λ v. v.items) rows) r [] (omega (arith, length_plain rows))

pub grown_beyond : (old new : List (Vec ℕ)) (r : ℕ) → length old ≤ r → length new ≤ r → Grown (row old r) (row new r)
grown_beyond old new r k l = subst (λ x. Grown x (row new r)) (sym (no_row old r k)) (subst (Grown []) (sym (no_row new r l)) (grown_same []))
