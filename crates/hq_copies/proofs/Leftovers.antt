-- The first run of a list of them, and those behind it.
use Rattle.std.proofs.Common.{◌≡◌, ℕ, zero, suc, ◌+◌, ◌-◌, ◌<◌, ◌≤◌, true, false, not, inl, inr, List, ◌∷◌, length, take, drop, refl, sym, ◌∙◌, ap, cond, min, get_or, arith, Some, None, length-drop}
use Rattle.std.proofs.lemmas.Bool.{cases_lt}
use Rattle.std.proofs.lemmas.List.{get_or-take, get_or-drop, length-take-le}
use Rattle.hq_copies.specs.Edges.{has, IsRising, is_odd, byte_at, IsRuns}
use Rattle.hq_copies.specs.Copies.{count_below}
use Rattle.hq_copies.specs.Overlays.{run_at, or_lower, Over}
use Rattle.hq_copies.proofs.Edges.{not_not, has_from, none_before, lower}
use Rattle.hq_copies.proofs.Counts.{step_true, step_false, at_true, at_false, at_other}
use Rattle.hq_copies.proofs.Overlays.{run_before, run_held, run_past}

before_first : (s e : ℕ) (edges : List ℕ) (n : ℕ) → IsRising 0 (s ∷ e ∷ edges) → n < s → has (s ∷ e ∷ edges) n ≡ false
before_first s e edges n r l = none_before s (s ∷ e ∷ edges) n (omega arith, r.1) l

in_first : (s e : ℕ) (edges : List ℕ) (n : ℕ) → IsRising 0 (s ∷ e ∷ edges) → s ≤ n → n < e → has (s ∷ e ∷ edges) n ≡ true
in_first s e edges n r l h = has_from s (e ∷ edges) n l ∙ ap not (none_before e (e ∷ edges) n (omega arith, r.1.1) h)

past_first : (s e : ℕ) (edges : List ℕ) (n : ℕ) → IsRising 0 (s ∷ e ∷ edges) → e ≤ n → has (s ∷ e ∷ edges) n ≡ has edges n
past_first s e edges n r l = has_from s (e ∷ edges) n (omega (arith, r.1.0)) ∙ ap not (has_from e edges n l) ∙ not_not (has edges n)

not_behind : (s e : ℕ) (edges : List ℕ) (n : ℕ) → IsRising 0 (s ∷ e ∷ edges) → n ≤ e → has edges n ≡ false
not_behind s e edges n r l = none_before (suc e) edges n r.1.1 (omega arith)

counted : (s e : ℕ) (edges : List ℕ) (n : ℕ) → IsRising 0 (s ∷ e ∷ edges) → count_below (has (s ∷ e ∷ edges)) n ≡ (min n e - s) + count_below (has edges) n
counted s e edges zero r = omega arith
counted s e edges (suc n) r = elim (cases_lt n e) [
  | inr past ↦ omega (arith, counted s e edges n r, r.1.0, ap (λ b. count_below (has edges) n + cond {A = ℕ} b 1 0) (past_first s e edges n r past))
  | inl low ↦ elim (cases_lt n s) [
    | inl before ↦ omega (arith, counted s e edges n r, r.1.0, step_false (has (s ∷ e ∷ edges)) n (before_first s e edges n r before), step_false (has edges) n (not_behind s e edges n r (omega arith)))
    | inr from ↦ omega (arith, counted s e edges n r, r.1.0, step_true (has (s ∷ e ∷ edges)) n (in_first s e edges n r from low), step_false (has edges) n (not_behind s e edges n r (omega arith)))
  ]
]

none_counted : (s e : ℕ) (edges : List ℕ) (n : ℕ) → IsRising 0 (s ∷ e ∷ edges) → n ≤ suc e → count_below (has edges) n ≡ 0
none_counted s e edges zero r l = refl
none_counted s e edges (suc n) r l = step_false (has edges) n (not_behind s e edges n r (omega arith)) ∙ none_counted s e edges n r (omega arith)

-- there is a byte for each number of the first run
pub first_fits : (s e : ℕ) (edges bytes : List ℕ) → IsRuns (s ∷ e ∷ edges) bytes → (s < e) × (e - s ≤ length bytes)
first_fits s e edges bytes runs =
    let r = runs.rising in
    let rising : s < e = omega (arith, r.1.0) in
    let c : count_below (has (s ∷ e ∷ edges)) e ≡ (min e e - s) + count_below (has edges) e = counted s e edges e r in
    let z : count_below (has edges) e ≡ 0 = none_counted s e edges e r (omega arith) in
    (rising, omega (arith, c, z, runs.enough e))

pub first_behind : (s e : ℕ) (edges bytes : List ℕ) → IsRuns (s ∷ e ∷ edges) bytes → IsRuns edges (drop (e - s) bytes)
first_behind s e edges bytes runs = record {
  rising = lower 0 (suc e) edges runs.rising.1.1 (omega arith);
  ends = sym (not_not (is_odd edges)) ∙ runs.ends;
  enough = λ n.
      let c : count_below (has (s ∷ e ∷ edges)) n ≡ (min n e - s) + count_below (has edges) n = counted s e edges n runs.rising in
      let d : length (drop (e - s) bytes) ≡ length bytes - (e - s) = length-drop (e - s) bytes in
      elim (cases_lt n e) [
        | inl low ↦ let z : count_below (has edges) n ≡ 0 = none_counted s e edges n runs.rising (omega arith) in omega (arith, z)
        | inr high ↦ omega (arith, c, d, runs.enough n, first_fits s e edges bytes runs)
      ];
}

pub first_over : (s e : ℕ) (edges bytes : List ℕ) → IsRuns (s ∷ e ∷ edges) bytes → Over (run_at s (take (e - s) bytes)) (byte_at (has edges) (drop (e - s) bytes)) (byte_at (has (s ∷ e ∷ edges)) bytes)
first_over s e edges bytes runs n = elim (cases_lt n s) [
  | inl before ↦
      at_false (has (s ∷ e ∷ edges)) bytes n (before_first s e edges n r before)
      ∙ sym (at_false (has edges) (drop (e - s) bytes) n (not_behind s e edges n r (omega (arith, fits))))
      ∙ ap (λ t. or_lower t (byte_at (has edges) (drop (e - s) bytes) n)) (sym (run_before s (take (e - s) bytes) n before))
  | inr from ↦ elim (cases_lt n e) [
    | inl low ↦
        let c : count_below (has (s ∷ e ∷ edges)) n ≡ (min n e - s) + count_below (has edges) n = counted s e edges n r in
        let z : count_below (has edges) n ≡ 0 = none_counted s e edges n r (omega arith) in
        let k : count_below (has (s ∷ e ∷ edges)) n ≡ n - s = omega (arith, c, z) in
        at_true (has (s ∷ e ∷ edges)) bytes n (in_first s e edges n r from low)
        ∙ ap Some (ap (λ m. get_or bytes m 0) k ∙ sym (get_or-take (e - s) bytes (n - s) 0 (omega arith)))
        ∙ ap (λ t. or_lower t (byte_at (has edges) (drop (e - s) bytes) n)) (sym (run_held s (take (e - s) bytes) n from (omega (arith, size, fits))))
    | inr high ↦
        at_other (has edges) (has (s ∷ e ∷ edges)) (drop (e - s) bytes) bytes n (past_first s e edges n r high) (λ _.
        let c : count_below (has (s ∷ e ∷ edges)) n ≡ (min n e - s) + count_below (has edges) n = counted s e edges n r in
        let k : count_below (has (s ∷ e ∷ edges)) n ≡ (e - s) + count_below (has edges) n = omega (arith, c) in
        ap (λ m. get_or bytes m 0) k ∙ sym (get_or-drop (e - s) bytes (count_below (has edges) n) 0))
        ∙ ap (λ t. or_lower t (byte_at (has edges) (drop (e - s) bytes) n)) (sym (run_past s (take (e - s) bytes) n (omega (arith, size, fits))))
  ]
]
  where
    r : IsRising 0 (s ∷ e ∷ edges)
    r = runs.rising

    fits : (s < e) × (e - s ≤ length bytes)
    fits = first_fits s e edges bytes runs

    size : length (take (e - s) bytes) ≡ e - s
    size = length-take-le (e - s) bytes fits.1

pub first_apart : (s e : ℕ) (edges bytes : List ℕ) (n : ℕ) → IsRuns (s ∷ e ∷ edges) bytes → n < s + length (take (e - s) bytes) → byte_at (has edges) (drop (e - s) bytes) n ≡ None
first_apart s e edges bytes n runs l =
    let fits = first_fits s e edges bytes runs in
    let size : length (take (e - s) bytes) ≡ e - s = length-take-le (e - s) bytes fits.1 in
    at_false (has edges) (drop (e - s) bytes) n (not_behind s e edges n runs.rising (omega (arith, size, fits.0)))
