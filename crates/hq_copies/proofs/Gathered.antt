-- The finite map of a function that has nothing from some number on.
use Rattle.std.proofs.Common.{◌≡◌, ℕ, zero, suc, ◌<◌, ◌≤◌, ◌≢◌, inl, inr, refl, sym, ◌∙◌, ap, cond, eqb, arith, Option, Some, None}
use Rattle.std.proofs.lemmas.Bool.{cases_lt, cases_eq, cond-true, cond-false, eq-eqb, ne_eqb}
use Rattle.std.specs.Cmp.{nat_cmp_total, unsigned_tied}
use Rattle.std.specs.Ordering.{nat_cmp}
use Rattle.std.specs.FinMap as finite
use Rattle.std.specs.FinMap.{nat_cmp-IsAntisymmetric}
use Rattle.hq_model.specs.Machine.{Copy}
use Rattle.hq_model.specs.View.{Held}
use Rattle.hq_copies.specs.Edges.{gathered, with_one}

pub get_inserted_same : (m : Held) (b : ℕ) (copy : Copy) → finite.get (finite.insert m b copy) b ≡ Some copy
get_inserted_same m b copy = finite.get-insert nat_cmp_total m b copy b ∙ ap (λ t. cond t (Some copy) (finite.get m b)) (unsigned_tied b b) ∙ cond-true (eqb b b) (Some copy) (finite.get m b) (eq-eqb b b refl)

pub get_inserted_other : (m : Held) (b : ℕ) (copy : Copy) (n : ℕ) → n ≢ b → finite.get (finite.insert m b copy) n ≡ finite.get m n
get_inserted_other m b copy n d = finite.get-insert nat_cmp_total m b copy n ∙ ap (λ t. cond t (Some copy) (finite.get m n)) (unsigned_tied n b) ∙ cond-false (eqb n b) (Some copy) (finite.get m n) (ne_eqb n b d)

pub get_removed_same : (m : Held) (b : ℕ) → finite.get (finite.remove m b) b ≡ None
get_removed_same m b = finite.get-remove nat_cmp_total m b b ∙ ap (λ t. cond t None (finite.get m b)) (unsigned_tied b b) ∙ cond-true (eqb b b) None (finite.get m b) (eq-eqb b b refl)

pub get_removed_other : (m : Held) (b n : ℕ) → n ≢ b → finite.get (finite.remove m b) n ≡ finite.get m n
get_removed_other m b n d = finite.get-remove nat_cmp_total m b n ∙ ap (λ t. cond t None (finite.get m n)) (unsigned_tied n b) ∙ cond-false (eqb n b) None (finite.get m n) (ne_eqb n b d)

with_same : (n : ℕ) (copy : Option Copy) (m : Held) → finite.get m n ≡ None → finite.get (with_one n copy m) n ≡ copy
with_same n None m h = h
with_same n (Some copy) m h = get_inserted_same m n copy

with_other : (n : ℕ) (copy : Option Copy) (m : Held) (q : ℕ) → q ≢ n → finite.get (with_one n copy m) q ≡ finite.get m q
with_other n None m q d = refl
with_other n (Some copy) m q d = get_inserted_other m n copy q d

none_above : (f : ℕ → Option Copy) (n q : ℕ) → n ≤ q → finite.get (gathered f n) q ≡ None
unfolding gathered
none_above f zero q l = finite.get-empty nat_cmp q
none_above f (suc n) q l = with_other n (f n) (gathered f n) q (λ e. absurd (omega arith)) ∙ none_above f n q (omega arith)

given_below : (f : ℕ → Option Copy) (n q : ℕ) → q < n → finite.get (gathered f n) q ≡ f q
unfolding gathered
given_below f zero q l = absurd (omega arith)
given_below f (suc n) q l = elim (cases_eq q n) [
  | inl same ↦ ap (λ k. finite.get (with_one n (f n) (gathered f n)) k) same ∙ with_same n (f n) (gathered f n) (none_above f n n (omega arith)) ∙ ap f (sym same)
  | inr d ↦ with_other n (f n) (gathered f n) q d ∙ given_below f n q (omega arith)
]

-- what the map gives, where f has nothing from n on
pub get_gathered : (f : ℕ → Option Copy) (n q : ℕ) → ((k : ℕ) → n ≤ k → f k ≡ None) → finite.get (gathered f n) q ≡ f q
get_gathered f n q none = elim (cases_lt q n) [
  | inl low ↦ given_below f n q low
  | inr high ↦ none_above f n q high ∙ sym (none q high)
]

-- two maps that give the same are one
pub same_held : (m n : Held) → ((q : ℕ) → finite.get m q ≡ finite.get n q) → m ≡ n
same_held m n same = finite.same_map nat_cmp_total nat_cmp-IsAntisymmetric m n same
