-- The bits of a word, one after the other, and the rows of a table.
use Rattle.std.proofs.Common.{◌≡◌, ◌≢◌, ◌↔◌, ℕ, ◌+◌, ◌*◌, ◌/◌, ◌%◌, ◌<◌, ◌⊎◌, inl, inr, List, sym, ◌∙◌, ap, subst, arith, IsTrue, Bool, ◌||◌, ◌==◌, slice_index, take, drop}
use Rattle.std.specs.Int.{bit_at}
use Rattle.std.proofs.lemmas.Bool.{cases_eq, eq-eqb, eqb-true}
use Rattle.std.proofs.lemmas.List.{get_or-take, get_or-drop}
use Rattle.std.proofs.lemmas.Nat.Bits.{bit_at-zero}
use Rattle.hq_bits.specs.Bits.{has}
use Rattle.hq_bits.proofs.Words.{joined, eq_test}

pub mark_bit : (old new : Bool) (x n : ℕ) → new ≡ (old || x == n) → IsTrue new ↔ (IsTrue old ⊎ (x ≡ n))
mark_bit old new x n e = joined old (x == n) new (x ≡ n) e (eq_test x n)

-- a bit of the word that the rest hasn't any more, for which the statement holds
abbrev pub Gone : ℕ → ℕ → (ℕ → Type 0) → Type 0
Gone word rest Q = (bit : ℕ) × (bit < 64) × (IsTrue (bit_at word bit == 1) × (bit_at rest bit ≡ 0) × Q bit)

pub gone_none : (Old : Type 0) (word : ℕ) (Q : ℕ → Type 0) → Old ↔ (Old ⊎ Gone word word Q)
gone_none Old word Q = (
  λ o. inl o,
  λ t. elim t [
    | inl o ↦ o
    | inr g ↦
        let one : bit_at word g.0 ≡ 1 = eqb-true (bit_at word g.0) 1 g.2.0 in
        let none : bit_at word g.0 ≡ 0 = g.2.1 in
        absurd (omega arith)
  ],
)

-- one more is gone
pub gone_more : (Old A B : Type 0) (word rest less k : ℕ) (Q : ℕ → Type 0) → k < 64 → bit_at word k ≡ 1 → bit_at less k ≡ 0 → ((i : ℕ) → i < 64 → i ≢ k → bit_at less i ≡ bit_at rest i)
    → A ↔ (Old ⊎ Gone word rest Q) → B ↔ (A ⊎ Q k) → B ↔ (Old ⊎ Gone word less Q)
gone_more Old A B word rest less k Q low one clear same h g = (
  λ b. elim (g.0 b) [
    | inl a ↦ elim (h.0 a) [
      | inl o ↦ inl o
      | inr x ↦ inr (x.0, x.1, (x.2.0, elim (cases_eq x.0 k) [ inl e ↦ subst (λ i. bit_at less i ≡ 0) (sym e) clear | inr d ↦ same x.0 x.1 d ∙ x.2.1 ], x.2.2))
    ]
    | inr q ↦ inr (k, low, (eq-eqb (bit_at word k) 1 one, clear, q))
  ],
  λ t. elim t [
    | inl o ↦ g.1 (inl (h.1 (inl o)))
    | inr x ↦ elim (cases_eq x.0 k) [
      | inl e ↦ g.1 (inr (subst Q e x.2.2))
      | inr d ↦ g.1 (inl (h.1 (inr (x.0, x.1, (x.2.0, sym (same x.0 x.1 d) ∙ x.2.1, x.2.2)))))
    ]
  ],
)

pub gone_all : (Old A : Type 0) (word rest : ℕ) (Q : ℕ → Type 0) → rest ≡ 0 → A ↔ (Old ⊎ Gone word rest Q) → A ↔ (Old ⊎ ((bit : ℕ) × (bit < 64) × (IsTrue (bit_at word bit == 1) × Q bit)))
gone_all Old A word rest Q z h = (
  λ a. elim (h.0 a) [ inl o ↦ inl o | inr x ↦ inr (x.0, x.1, (x.2.0, x.2.2)) ],
  λ t. elim t [ inl o ↦ h.1 (inl o) | inr x ↦ h.1 (inr (x.0, x.1, (x.2.0, ap (λ w. bit_at w x.0) z ∙ bit_at-zero x.0, x.2.1))) ],
)

-- what the rest has the word has
abbrev pub Under : ℕ → ℕ → Type 0
Under word rest = (i : ℕ) → i < 64 → bit_at rest i ≡ 1 → bit_at word i ≡ 1

pub under_less : (word rest less k : ℕ) → bit_at less k ≡ 0 → ((i : ℕ) → i < 64 → i ≢ k → bit_at less i ≡ bit_at rest i) → Under word rest → Under word less
under_less word rest less k clear same u i low one = elim (cases_eq i k) [
  | inl e ↦ let none : bit_at less i ≡ 0 = subst (λ j. bit_at less j ≡ 0) (sym e) clear in absurd (omega arith)
  | inr d ↦ u i low (sym (same i low d) ∙ one)
]

-- ---- a row of a table

pub column_has : (table : List ℕ) (p m : ℕ) → m / 64 < 16 → has (take 16 (drop (p * 16) table)) m ≡ has table (p * 1024 + m)
column_has table p m l =
    let word : slice_index (take 16 (drop (p * 16) table)) (m / 64) ≡ slice_index table (p * 16 + m / 64) = get_or-take 16 (drop (p * 16) table) (m / 64) 0 l ∙ get_or-drop (p * 16) table (m / 64) 0 in
    let place : p * 16 + m / 64 ≡ (p * 1024 + m) / 64 = omega arith in
    let bit : m % 64 ≡ (p * 1024 + m) % 64 = omega arith in
    ap (λ w. bit_at w (m % 64) == 1) (word ∙ ap (slice_index table) place) ∙ ap (λ k. bit_at (slice_index table ((p * 1024 + m) / 64)) k == 1) bit
