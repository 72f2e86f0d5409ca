-- The rows of all signals, behind one another.
use Rattle.std.proofs.Common.{◌≡◌, ℕ, ◌+◌, ◌*◌, ◌/◌, ◌%◌, ◌<◌, ◌≤◌, ◌↔◌, ◌⊎◌, inl, inr, false, ◌||◌, ◌==◌, IsTrue, List, length, refl, sym, ◌∙◌, ap, subst, arith, slice_index, take, drop, min, Some}
use Rattle.std.specs.Int.{bit_at}
use Rattle.std.proofs.lemmas.Bool.{cases_lt, eq-eqb, eqb-true}
use Rattle.std.proofs.lemmas.Nat.{div-mul-add}
use Rattle.std.proofs.lemmas.List.{get_or-take, get_or-drop, get_or_past, length-take}
use Rattle.std.proofs.Math.Nat.{mul_assoc}
use Rattle.hq_model.specs.Job.{Job, Decrements}
use Rattle.hq_bits.specs.Bits.{has}
use Rattle.hq_waits.specs.Waits.{Completing, MarksCompletion}
use Rattle.hq_rows.proofs.Filling.{has_no_bit, or_either, or_left, or_right}

-- the place of a bit in a row and in the rows
word_of : (s w p : ℕ) → (s * (w * 64) + p) / 64 ≡ s * w + p / 64
word_of s w p = let assoc : s * w * 64 ≡ s * (w * 64) = mul_assoc s w 64 in omega (arith, assoc)

bit_of : (s w p : ℕ) → (s * (w * 64) + p) % 64 ≡ p % 64
bit_of s w p = let assoc : s * w * 64 ≡ s * (w * 64) = mul_assoc s w 64 in omega (arith, assoc)

-- a place is that of one row and one bit
pub same_place : (s t w p q : ℕ) → p < w → q < w → s * w + p ≡ t * w + q → (s ≡ t) × (p ≡ q)
same_place s t w p q low small e =
    let row : s ≡ t = sym (div-mul-add s w p low) ∙ ap (λ k. k / w) e ∙ div-mul-add t w q small in
    let start : s * w ≡ t * w = ap (λ k. k * w) row in
    (row, omega (arith, e, start))

-- a packet that completes on a signal is taken in
pub taken_in : (job : Job) (words i d : ℕ) (row new : List ℕ) → Decrements job i d → ((e : ℕ) → has new e ≡ (has row e || e == d * (words * 64) + i)) → (e : ℕ) → IsTrue (has new e) ↔ (IsTrue (has row e) ⊎ ((s : ℕ) × (e ≡ s * (words * 64) + i) × Decrements job i s))
taken_in job words i d row new completes grows e = (
  λ h. elim (or_either (has row e) (e == d * (words * 64) + i) (sym (grows e) ∙ h)) [
    | inl before ↦ inl before
    | inr this ↦ inr (d, eqb-true e (d * (words * 64) + i) this, completes)
  ],
  λ h. grows e ∙ elim h [
    | inl before ↦ or_left (has row e) (e == d * (words * 64) + i) before
    | inr b ↦
        let one : Some b.0 ≡ Some d = sym b.2.signal ∙ completes.signal in
        let same : b.0 ≡ d = cc in
        or_right (has row e) (e == d * (words * 64) + i) (eq-eqb e (d * (words * 64) + i) (b.1 ∙ ap (λ s. s * (words * 64) + i) same))
  ],
)

pub row_is : (job : Job) (words s : ℕ) (all row : List ℕ) → length job.packets ≤ words * 64 → ((e : ℕ) → IsTrue (has all e) ↔ MarksCompletion job words e) → row ≡ take words (drop (s * words) all) → Completing job s row
row_is job words s all row room marked e = record {
  are = λ p. elim (cases_lt p (words * 64)) [
    | inl low ↦
        let at : slice_index row (p / 64) ≡ slice_index all ((s * (words * 64) + p) / 64) = ap (λ r. slice_index r (p / 64)) e ∙ get_or-take words (drop (s * words) all) (p / 64) 0 (omega (arith, low)) ∙ get_or-drop (s * words) all (p / 64) 0 ∙ ap (slice_index all) (sym (word_of s words p)) in
        let same : has row p ≡ has all (s * (words * 64) + p) = ap (λ w. bit_at w (p % 64) == 1) at ∙ ap (λ b. bit_at (slice_index all ((s * (words * 64) + p) / 64)) b == 1) (sym (bit_of s words p)) in (
          λ h.
              let (q, t, place, d) = (marked (s * (words * 64) + p)).0 (sym same ∙ h) in
              let both = same_place s t (words * 64) p q low (omega (arith, d.is_packet, room)) place in
              subst (λ k. Decrements job k s) (sym both.1) (subst (Decrements job q) (sym both.0) d),
          λ d. same ∙ (marked (s * (words * 64) + p)).1 (p, s, refl, d),
        )
    | inr high ↦ (
      λ h. let short : length row ≡ min words (length (drop (s * words) all)) = ap length e ∙ length-take words (drop (s * words) all) in
          let none : has row p ≡ false = has_no_bit row p (get_or_past row (p / 64) 0 (omega (arith, short, high))) in let never : ⊥ = cc in absurd never,
      λ d. absurd (omega (arith, d.is_packet, room, high)),
    )
  ];
}
