-- Rows of bits, word by word and bit by bit.
use Rattle.std.proofs.Common.{◌≡◌, ◌↔◌, ℕ, ◌-◌, ◌/◌, ◌%◌, ◌^◌, ◌<◌, ◌≤◌, ◌⊎◌, inl, inr, List, length, refl, sym, ◌∙◌, ap, arith, IsTrue, Bool, true, false, ◌||◌, ◌&&◌, ◌==◌, slice_index, bit_or, replicate}
use Rattle.std.specs.Int.{bit_at}
use Rattle.std.proofs.lemmas.Bool.{cases_lt, eq-eqb, eqb-true}
use Rattle.std.proofs.lemmas.List.{get_or_past, get_or-replicate, length-replicate}
use Rattle.std.proofs.lemmas.Nat.{le_or_l}
use Rattle.std.proofs.lemmas.Nat.Bits.{bit_at_ones, bit_at-zero}
use Rattle.hq_bits.specs.Bits.{has, Grown}
use Rattle.hq_bits.proofs.Sets.{Joined}

-- ---- words

pub grown_united : (old other new : List ℕ) → Joined bit_or old other new → Grown old new
grown_united old other new u = record {
  len = u.len;
  words = λ i. elim (cases_lt i (length old)) [
    | inl low ↦ let w = u.words i low in omega (arith, w, le_or_l (slice_index old i) (slice_index other i))
    | inr high ↦ let z : slice_index old i ≡ 0 = get_or_past old i 0 high in omega (arith, z)
  ];
}

pub grown_same : (row : List ℕ) → Grown row row
grown_same row = record { len = refl; words = λ i. omega arith }

pub grown_more : (a b c : List ℕ) → Grown a b → Grown b c → Grown a c
grown_more a b c g h = record { len = h.len ∙ g.len; words = λ i. omega (arith, g.words i, h.words i) }

-- ---- bits

pub or_cases : (a b : Bool) → IsTrue (a || b) ↔ (IsTrue a ⊎ IsTrue b)
or_cases true b = (λ h. inl refl, λ h. refl)
or_cases false b = (λ h. inr h, λ h. elim h [ inl x ↦ absurd (cc) | inr y ↦ y ])

pub and_both : (a b : Bool) → IsTrue (a && b) ↔ (IsTrue a × IsTrue b)
and_both true b = (λ h. (refl, h), λ h. h.1)
and_both false b = (λ h. absurd (cc), λ h. absurd (let x : false ≡ true = h.0 in cc))

pub past : (row : List ℕ) (p : ℕ) → length row ≤ p / 64 → has row p ≡ false
past row p l = ap (λ w. bit_at w (p % 64) == 1) (get_or_past row (p / 64) 0 l) ∙ ap (λ m. m == 1) (bit_at-zero (p % 64))

pub within : (row : List ℕ) (p : ℕ) → IsTrue (has row p) → p / 64 < length row
within row p h = elim (cases_lt (p / 64) (length row)) [
  | inl low ↦ low
  | inr high ↦ absurd (let x : true ≡ false = sym h ∙ past row p high in cc)
]

-- a test that is one or another
pub joined : (old other new : Bool) (Q : Type 0) → new ≡ (old || other) → IsTrue other ↔ Q → IsTrue new ↔ (IsTrue old ⊎ Q)
joined old other new Q e q = (
  λ n. elim ((or_cases old other).0 (sym e ∙ n)) [ inl x ↦ inl x | inr y ↦ inr (q.0 y) ],
  λ t. e ∙ (or_cases old other).1 (elim t [ inl x ↦ inl x | inr y ↦ inr (q.1 y) ]),
)

pub met : (old other new : Bool) (Q : Type 0) → new ≡ (old && other) → IsTrue other ↔ Q → IsTrue new ↔ (IsTrue old × Q)
met old other new Q e q = (
  λ n. let b = (and_both old other).0 (sym e ∙ n) in (b.0, q.0 b.1),
  λ t. e ∙ (and_both old other).1 (t.0, q.1 t.1),
)

pub eq_test : (p n : ℕ) → IsTrue (p == n) ↔ (p ≡ n)
eq_test p n = (λ h. eqb-true p n h, λ e. eq-eqb p n e)

-- ---- all the numbers that there is room for

pub has_full : (words p : ℕ) → IsTrue (has (replicate words (2 ^ 64 - 1)) p) ↔ p / 64 < words
has_full words p = (
  λ h. omega (arith, within (replicate words (2 ^ 64 - 1)) p h, length-replicate words (2 ^ 64 - 1)),
  λ l. ap (λ w. bit_at w (p % 64) == 1) (get_or-replicate words (p / 64) (2 ^ 64 - 1) 0 l) ∙ eq-eqb (bit_at (2 ^ 64 - 1) (p % 64)) 1 (bit_at_ones 64 (p % 64) (omega arith)),
)
