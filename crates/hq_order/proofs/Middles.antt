-- The packets between two by lower rounds.
use Rattle.std.proofs.Common.{◌≡◌, ℕ, zero, suc, ◌-◌, ◌/◌, ◌<◌, ◌≤◌, ◌⊎◌, inl, inr, List, length, subst, arith, Option, Some, None}
use Rattle.std.specs.Prelude.{MatchOption, IfSome}
use Rattle.std.specs.Global.{Vec}
use Rattle.std.proofs.lemmas.Bool.{cases_lt}
use Rattle.hq_model.specs.Job.{Job}
use Rattle.hq_rows.specs.Matrix.{row, Marks, matrix, IsMarkedBetween, IsMarkedNowhere}
use Rattle.hq_order.specs.Rounds.{AreRounds, IsClosed, Within, IsFirstWithin, Between, IsMiddle}
use Rattle.hq_order.specs.Rounds.Next.{by_known}
use Rattle.hq_order.proofs.Closure.{within_before, last_exact}
use Rattle.hq_rows.proofs.Rows.{marked_below}
use Rattle.hq_bits.proofs.Words.{within}

-- what is within a round is within those above it
pub within_le : (job : Job) (j k p r : ℕ) → k ≤ j → Within job k p r → Within job j p r
within_le job zero k p r l w = let e : k ≡ 0 = omega arith in subst (λ i. Within job i p r) e w
within_le job (suc j) k p r l w = elim (cases_lt k (suc j)) [
  | inl low ↦ by_known (within_le job j k p r (omega arith) w)
  | inr high ↦ let e : k ≡ suc j = omega arith in subst (λ i. Within job i p r) e w
]

-- the round in which a pair comes first is there
pub first_low : (job : Job) (rounds : List (Vec (Vec ℕ))) (round p r : ℕ) → AreRounds job rounds → IsClosed job rounds → IsFirstWithin job round p r → round < length rounds
first_low job rounds round p r a c f = elim (cases_lt round (length rounds)) [
  | inl low ↦ low
  | inr high ↦
      let some = a.some in
      let k = length rounds - 1 in
      let low : k < length rounds = omega arith in
      let below : k < round = omega arith in
      absurd (f.first k below ((a.exact k p r low).0 ((last_exact job rounds a c p r).1 (within_before job round p r f.within))))
]

pub few_rows : (job : Job) (rounds : List (Vec (Vec ℕ))) (k : ℕ) → AreRounds job rounds → length job.packets ≤ 1024 → k < length rounds → length (matrix rounds k) ≤ 1024
few_rows job rounds k a few l = let h : length (matrix rounds k) ≡ length job.packets = (a.square k l).height in omega arith

between_marks : (job : Job) (rounds : List (Vec (Vec ℕ))) (round p r m : ℕ) → AreRounds job rounds → round < length rounds → Between job round p r m → Marks (matrix rounds (round - 1)) p m × Marks (matrix rounds (round - 1)) m r
between_marks job rounds round p r m a l b =
    let k = round - 1 in
    let below = b.lower in
    let low : k < length rounds = omega arith in
    let upto : b.k ≤ k = omega arith in
    ((a.exact k p m low).1 (within_le job k b.k p m upto b.first), (a.exact k m r low).1 (within_le job k b.k m r upto b.second))

pub middle_found : (job : Job) (rounds : List (Vec (Vec ℕ))) (round p r : ℕ) (o : Option ℕ) → AreRounds job rounds → 0 < round → round < length rounds
    → MatchOption o ((m : ℕ) → Marks (matrix rounds (round - 1)) p m → Marks (matrix rounds (round - 1)) m r → ⊥) (IsMarkedBetween (matrix rounds (round - 1)) p r)
    → MatchOption o ((m : ℕ) → Between job round p r m → ⊥) (IsMiddle job round p r)
middle_found job rounds round p r None a some l h = λ m b. let x = between_marks job rounds round p r m a l b in h m x.0 x.1
middle_found job rounds round p r (Some m) a some l h =
    let k = round - 1 in
    let low : k < length rounds = omega arith in
    let below : k < round = omega arith in
    record {
      between = record { k = k; lower = below; first = (a.exact k p m low).0 h.first; second = (a.exact k m r low).0 h.second };
      least = λ i lower b. let x = between_marks job rounds round p r i a l b in h.least i lower x.0 x.1;
    }

-- the same where only what is found counts
pub found_between : (job : Job) (rounds : List (Vec (Vec ℕ))) (round p r : ℕ) (o : Option ℕ) → AreRounds job rounds → 0 < round → round < length rounds
    → MatchOption o ((m : ℕ) → Marks (matrix rounds (round - 1)) p m → Marks (matrix rounds (round - 1)) m r → ⊥) (IsMarkedBetween (matrix rounds (round - 1)) p r)
    → IfSome o (Between job round p r)
found_between job rounds round p r None a some l h = tt
found_between job rounds round p r (Some m) a some l h = (middle_found job rounds round p r (Some m) a some l h).between

-- what is found is a packet
pub found_low : (job : Job) (rounds : List (Vec (Vec ℕ))) (k p r : ℕ) (o : Option ℕ) → AreRounds job rounds → k < length rounds
    → MatchOption o ((m : ℕ) → Marks (matrix rounds k) p m → Marks (matrix rounds k) m r → ⊥) (IsMarkedBetween (matrix rounds k) p r)
    → IfSome o (λ m. m < length job.packets)
found_low job rounds k p r None a l h = tt
found_low job rounds k p r (Some m) a l h = subst (λ n. m < n) (a.square k l).height (marked_below (matrix rounds k) p m h.first)

-- ---- numbers that are too large for a table

pub wide_nowhere : (job : Job) (rounds : List (Vec (Vec ℕ))) (p r : ℕ) → AreRounds job rounds → (1024 ≤ p) ⊎ (1024 ≤ r) → IsMarkedNowhere rounds p r
wide_nowhere job rounds p r a wide = λ k l m.
    let sq = a.square k l in
    let low : r < length (matrix rounds k) = marked_below (matrix rounds k) p r m in
    let there : r < length job.packets = omega (arith, sq.height) in
    let near : p / 64 < length (row (matrix rounds k) r) = within (row (matrix rounds k) r) p m in
    elim wide [
      | inl first ↦ absurd (omega (arith, sq.few, sq.width r there))
      | inr second ↦ absurd (omega (arith, sq.few, sq.room))
    ]
