-- Round after round, until one adds nothing: then all of the order is there.
use Rattle.std.proofs.Common.{◌≡◌, ◌↔◌, ℕ, zero, suc, ◌+◌, ◌-◌, ◌<◌, inl, inr, List, [], ◌∷◌, ◌++◌, length, refl, sym, subst, arith, length-append}
use Rattle.std.specs.Global.{Vec}
use Rattle.std.proofs.lemmas.Bool.{cases_lt}
use Rattle.hq_model.specs.Job.{Job, Decrements}
use Rattle.hq_model.specs.Order.{AwaitsAny, Before, Branch}
use Rattle.hq_model.specs.Order.Before.{by_bit, by_queue, by_and, by_or, through}
use Rattle.hq_model.specs.Order.Branch.{itself, after}
use Rattle.hq_rows.specs.Matrix.{Marks, IsSquare, matrix, last, IsMarkedNowhere, IsMarkedFirst}
use Rattle.hq_rows.specs.Uniting.{Through}
use Rattle.hq_order.specs.Rounds.{AreRounds, IsClosed, Direct, Reaches, Next, Within, IsFirstWithin}
use Rattle.std.specs.Prelude.{Option, Some, None, MatchOption}
use Rattle.hq_order.specs.Rounds.Precedes.{by_bit as bit_behind, by_queue as queued}
use Rattle.hq_order.specs.Rounds.Awaits.{by_and as waits_one, by_or as waits_each}
use Rattle.hq_order.specs.Rounds.Next.{by_known, by_either, through as joining}
use Rattle.hq_rows.proofs.Rows.{marked_below}
use Rattle.hq_rows.proofs.Pushed.{below_pushed, at_pushed}

-- ---- one round from another

known_more : (job : Job) (R S : ℕ → ℕ → Type 0) → ((p r : ℕ) → R p r → S p r) → (p s : ℕ) → Reaches job R p s → Reaches job S p s
known_more job R S h p s x = record { d = x.d; decrements = x.decrements; upto = elim x.upto [ inl e ↦ inl e | inr k ↦ inr (h p x.d k) ] }

pub next_more : (job : Job) (R S : ℕ → ℕ → Type 0) → ((p r : ℕ) → R p r → S p r) → (p r : ℕ) → Next job R p r → Next job S p r
next_more job R S h p r (by_known k) = by_known (h p r k)
next_more job R S h p r (by_either e) = by_either (record { any = e.any; each = λ slot s d. known_more job R S h p s (e.each slot s d) })
next_more job R S h p r (joining {m} k l) = joining {m = m} (h p m k) (h m r l)

pub next_within : (job : Job) (rows : List (Vec ℕ)) (p r : ℕ) → length rows ≡ length job.packets → Next job (Marks rows) p r → r < length rows
next_within job rows p r e (by_known k) = marked_below rows p r k
next_within job rows p r e (by_either b) = let l : r < length job.packets = b.any.some.2.is_packet in omega arith
next_within job rows p r e (joining {m} k l) = marked_below rows m r l

-- where two rows give no more, and there is no barrier-OR, nothing is added
pub closed_whole : (job : Job) (rows : List (Vec ℕ)) → ((p r : ℕ) → Through rows p r → Marks rows p r) → ((r : ℕ) → AwaitsAny job r → ⊥) → (p r : ℕ) → Next job (Marks rows) p r → Marks rows p r
closed_whole job rows whole none p r (by_known k) = k
closed_whole job rows whole none p r (by_either e) = absurd (none r e.any)
closed_whole job rows whole none p r (joining {m} k l) = whole p r (inr (m, k, l))

-- ---- rounds

pub first_round : (job : Job) (x : Vec (Vec ℕ)) → IsSquare (length job.packets) x.items → ((p r : ℕ) → Marks x.items p r ↔ Direct job p r) → AreRounds job (x ∷ [])
first_round job x sq h = record {
  some = omega arith;
  square = λ k l. square k l;
  exact = λ k p r l. exact k p r l;
}
  where
    square : (k : ℕ) → k < 1 → IsSquare (length job.packets) (matrix (x ∷ []) k)
    square zero l = sq
    square (suc k) l = absurd (omega arith)

    exact : (k p r : ℕ) → k < 1 → Marks (matrix (x ∷ []) k) p r ↔ Within job k p r
    exact zero p r l = h p r
    exact (suc k) p r l = absurd (omega arith)

pub more_rounds : (job : Job) (rounds : List (Vec (Vec ℕ))) (x : Vec (Vec ℕ)) → AreRounds job rounds → IsSquare (length job.packets) x.items → ((p r : ℕ) → Marks x.items p r ↔ Next job (Marks (last rounds)) p r) → AreRounds job (rounds ++ x ∷ [])
more_rounds job rounds x a sq h =
    let more : length (rounds ++ x ∷ []) ≡ length rounds + 1 = length-append rounds (x ∷ []) in
    record {
      some = omega arith;
      square = λ k l. elim (cases_lt k (length rounds)) [
        | inl low ↦ subst (IsSquare (length job.packets)) (sym (below_pushed (λ v. v.items) rounds x k low)) (a.square k low)
        | inr high ↦ let here : length rounds ≡ k = omega arith in subst (λ j. IsSquare (length job.packets) (matrix (rounds ++ x ∷ []) j)) here (subst (IsSquare (length job.packets)) (sym (at_pushed (λ v. v.items) rounds x)) sq)
      ];
      exact = λ k p r l. elim (cases_lt k (length rounds)) [
        | inl low ↦ subst (λ rows. Marks rows p r ↔ Within job k p r) (sym (below_pushed (λ v. v.items) rounds x k low)) (a.exact k p r low)
        | inr high ↦
            let here : length rounds ≡ k = omega arith in
            let before = length rounds - 1 in
            let some = a.some in
            let low : before < length rounds = omega arith in
            let step : suc before ≡ length rounds = omega arith in
            let exact : Marks x.items p r ↔ Within job (length rounds) p r = subst (λ j. Marks x.items p r ↔ Within job j p r) step (
              λ m. next_more job (Marks (last rounds)) (Within job before) (λ q s. (a.exact before q s low).0) p r ((h p r).0 m),
              λ w. (h p r).1 (next_more job (Within job before) (Marks (last rounds)) (λ q s. (a.exact before q s low).1) p r w),
            ) in
            subst (λ j. Marks (matrix (rounds ++ x ∷ []) j) p r ↔ Within job j p r) here (subst (λ rows. Marks rows p r ↔ Within job (length rounds) p r) (sym (at_pushed (λ v. v.items) rounds x)) exact)
      ];
    }

-- ---- what is within a round is before

direct_before : (job : Job) (p r : ℕ) → Direct job p r → Before job p r
direct_before job p r (inl (bit_behind {j} by)) = by_bit {j = j} by
direct_before job p r (inl (queued by)) = by_queue by
direct_before job p r (inr (waits_one {slot} {s} by)) = by_and {slot = slot} {s = s} by
direct_before job p r (inr (waits_each any c)) = by_or any (λ slot s d. itself (c slot s d))

next_before : (job : Job) (p r : ℕ) → Next job (Before job) p r → Before job p r
next_before job p r (by_known b) = b
next_before job p r (by_either e) =
    by_or e.any
    (λ slot s d. let x = e.each slot s d in elim x.upto [ inl same ↦ itself (subst (λ q. Decrements job q s) (sym same) x.decrements) | inr b ↦ after {d = x.d} x.decrements b ])
next_before job p r (joining {m} b c) = through {m = m} b c

pub within_before : (job : Job) (k p r : ℕ) → Within job k p r → Before job p r
within_before job zero p r w = direct_before job p r w
within_before job (suc k) p r w = next_before job p r (next_more job (Within job k) (Before job) (within_before job k) p r w)

-- ---- and what is before is within the last

pub direct_within : (job : Job) (k p r : ℕ) → Direct job p r → Within job k p r
direct_within job zero p r d = d
direct_within job (suc k) p r d = by_known (direct_within job k p r d)

pub record Closed (job : Job) (known : ℕ → ℕ → Type 0) : Type 0 where
  pub direct : (p r : ℕ) → Direct job p r → known p r
  pub next : (p r : ℕ) → Next job known p r → known p r

mutual
  before_known : (job : Job) (known : ℕ → ℕ → Type 0) → Closed job known → {p r : ℕ} → Before job p r → known p r
  before_known job known c (by_bit {p = p} {r = r} {j = j} by) = c.direct p r (inl (bit_behind {j = j} by))
  before_known job known c (by_queue {p = p} {r = r} by) = c.direct p r (inl (queued by))
  before_known job known c (by_and {p = p} {r = r} {slot = slot} {s = s} by) = c.direct p r (inr (waits_one {slot = slot} {s = s} by))
  before_known job known c (by_or {p = p} {r = r} any f) = c.next p r (by_either (record { any = any; each = λ slot s d. branch_known job known c (f slot s d) }))
  before_known job known c (through {p = p} {m = m} {r = r} b d) = c.next p r (joining {m = m} (before_known job known c b) (before_known job known c d))

  branch_known : (job : Job) (known : ℕ → ℕ → Type 0) → Closed job known → {p s : ℕ} → Branch job p s → Reaches job known p s
  branch_known job known c (itself {p = p} d) = record { d = p; decrements = d; upto = inl refl }
  branch_known job known c (after {p = p} {d = d} x b) = record { d = d; decrements = x; upto = inr (before_known job known c b) }

-- so the last round is the order
pub last_exact : (job : Job) (rounds : List (Vec (Vec ℕ))) → AreRounds job rounds → IsClosed job rounds → (p r : ℕ) → Marks (last rounds) p r ↔ Before job p r
last_exact job rounds a c p r =
    let k = length rounds - 1 in
    let some = a.some in
    let low : k < length rounds = omega arith in (
      λ m. within_before job k p r ((a.exact k p r low).0 m),
      λ b. before_known job (Marks (last rounds)) (record { direct = λ q s d. (a.exact k q s low).1 (direct_within job k q s d); next = c }) b,
    )

pub round_exact : (job : Job) (rounds : List (Vec (Vec ℕ))) (p r : ℕ) (o : Option ℕ) → AreRounds job rounds → IsClosed job rounds → MatchOption o (IsMarkedNowhere rounds p r) (λ k. IsMarkedFirst rounds p r k) → MatchOption o (Before job p r → ⊥) (λ k. IsFirstWithin job k p r)
round_exact job rounds p r None a c h = λ b. let some = a.some in h (length rounds - 1) (omega arith) ((last_exact job rounds a c p r).1 b)
round_exact job rounds p r (Some k) a c h = record {
  within = (a.exact k p r h.low).0 h.there;
  first = λ j l w. let low = h.low in h.first j l ((a.exact j p r (omega arith)).1 w);
}
