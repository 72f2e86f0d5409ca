-- What comes before a packet in a round rests on what comes in lower rounds.
use Rattle.std.proofs.Common.{ℕ, zero, suc, inl, inr, refl, sym, subst, arith, Some, None, Option}
use Rattle.std.specs.Prelude.{MatchOption, IsSome}
use Rattle.std.proofs.lemmas.Bool.{cases_lt}
use Rattle.hq_model.specs.Job.{Job, IsPacket}
use Rattle.hq_model.specs.Order.{Before, Branch}
use Rattle.hq_model.specs.Order.Before.{by_bit as bit_behind, by_queue as queued, by_and as waits_one, by_or as waits_each, through}
use Rattle.hq_model.specs.Order.Branch.{itself, after}
use Rattle.hq_order.specs.Rounds.{Direct, Next, Within, Reaches, ByOr, IsFirstWithin, Between}
use Rattle.hq_order.specs.Rounds.Precedes.{by_bit, by_queue}
use Rattle.hq_order.specs.Rounds.Awaits.{by_and, by_or}
use Rattle.hq_order.specs.Rounds.Next.{by_known, by_either, through as joining}
use Rattle.hq_model.proofs.Orders.{bit_packet, earlier_packet}
use Rattle.hq_order.proofs.Single.{direct_packet, direct_packet_r}
use Rattle.hq_order.proofs.Closure.{within_before}
use Rattle.hq_order.proofs.Middles.{within_le}
use Rattle.hq_derive.specs.Rests.{Below, ByBranch, ByMiddle, NoneAlone}

-- ---- what is within a round is of packets

next_second : (job : Job) (k p r : ℕ) → ((p r : ℕ) → Within job k p r → IsPacket job r) → Next job (Within job k) p r → IsPacket job r
next_second job k p r f (by_known w) = f p r w
next_second job k p r f (by_either e) = e.any.some.2.is_packet
next_second job k p r f (joining {m} a b) = f m r b

pub within_second : (job : Job) (k p r : ℕ) → Within job k p r → IsPacket job r
within_second job zero p r w = direct_packet_r job p r w
within_second job (suc k) p r w = next_second job k p r (within_second job k) w

next_first : (job : Job) (k p r : ℕ) → ((p r : ℕ) → Within job k p r → IsPacket job p) → Next job (Within job k) p r → IsPacket job p
next_first job k p r f (by_known w) = f p r w
next_first job k p r f (by_either e) =
    let x = e.each e.any.some.0 e.any.some.1 e.any.some.2 in
    elim x.upto [ inl same ↦ subst (IsPacket job) (sym same) x.decrements.is_packet | inr w ↦ f p x.d w ]
next_first job k p r f (joining {m} a b) = f p m a

pub within_first : (job : Job) (k p r : ℕ) → Within job k p r → IsPacket job p
within_first job zero p r w = direct_packet job p r (direct_packet_r job p r w) w
within_first job (suc k) p r w = next_first job k p r (within_first job k) w

-- ---- so is what is before

pub before_second : (job : Job) (p r : ℕ) → Before job p r → IsPacket job r
before_second job p r (bit_behind by) = bit_packet job p r by
before_second job p r (queued by) = by.earlier.is_packet
before_second job p r (waits_one by) = by.dependency.is_packet
before_second job p r (waits_each any f) = any.some.2.is_packet
before_second job p r (through {m} b c) = before_second job m r c

mutual
  pub first_of : (job : Job) {p r : ℕ} → Before job p r → IsPacket job p
  first_of job (bit_behind {p = p} {j = j} by) = earlier_packet job p j by.earlier
  first_of job (queued {p = p} {r = r} by) = earlier_packet job p r by.earlier
  first_of job (waits_one by) = by.decrements.is_packet
  first_of job (waits_each any f) = let (slot, s, d) = any.some in branch_first job (f slot s d)
  first_of job (through b c) = first_of job b

  branch_first : (job : Job) {p s : ℕ} → Branch job p s → IsPacket job p
  branch_first job (itself d) = d.is_packet
  branch_first job (after d b) = first_of job b

-- ---- lower rounds

pub below_before : (job : Job) (round p r : ℕ) → Below job round p r → Before job p r
below_before job round p r b = within_before job b.k p r b.within

-- ---- the reasons

pub branch_reaches : (job : Job) (round p s d : ℕ) → ByBranch job round p s d → Reaches job (Below job round) p s
branch_reaches job round p s d b = record { d = d; decrements = b.decrements; upto = b.upto }

pub reaches_branch : (job : Job) (round p s : ℕ) (x : Reaches job (Below job round) p s) → ByBranch job round p s x.d
reaches_branch job round p s x = record { decrements = x.decrements; upto = x.upto }

pub record Refuted (job : Job) (round p r : ℕ) : Type 0 where
  pub alone : NoneAlone job p r
  pub no_either : ByOr job (Below job round) p r → ⊥
  pub no_middle : (m : ℕ) → ByMiddle job round p r m → ⊥

not_direct : (job : Job) (round p r : ℕ) → Refuted job round p r → Direct job p r → ⊥
not_direct job round p r n (inl (by_bit {j} by)) = n.alone.no_bit j by
not_direct job round p r n (inl (by_queue by)) = n.alone.no_queue by
not_direct job round p r n (inr (by_and {slot} {s} by)) = n.alone.no_slot slot s by
not_direct job round p r n (inr (by_or any all)) =
    n.no_either (record { any = any; each = λ slot s d. record { d = p; decrements = all slot s d; upto = inl refl } })

under : (job : Job) (k p r : ℕ) → Within job k p r → Below job (suc k) p r
under job k p r w = record { k = k; lower = omega arith; within = w }

not_next : (job : Job) (k p r : ℕ) → Refuted job (suc k) p r → (Within job k p r → ⊥) → Next job (Within job k) p r → ⊥
not_next job k p r n ban (by_known w) = ban w
not_next job k p r n ban (by_either e) =
    n.no_either (record {
      any = e.any;
      each = λ slot s d.
          let x = e.each slot s d in
          record { d = x.d; decrements = x.decrements; upto = elim x.upto [ inl same ↦ inl same | inr w ↦ inr (under job k p x.d w) ] };
    })
not_next job k p r n ban (joining {m} a b) = n.no_middle m (record { first = under job k p m a; second = under job k m r b })

-- What comes first in a round has one of the reasons.
pub never_refuted : (job : Job) (round p r : ℕ) → IsFirstWithin job round p r → Refuted job round p r → ⊥
never_refuted job zero p r f n = not_direct job zero p r n f.within
never_refuted job (suc k) p r f n = not_next job k p r n (f.first k (omega arith)) f.within

-- ---- a search that can't fail

pub some_there : (o : Option ℕ) (A : Type 0) (Q : ℕ → Type 0) → MatchOption o A Q → (A → ⊥) → IsSome o
some_there None A Q h ban = absurd (ban h)
some_there (Some x) A Q h ban = refl

-- ---- between two packets

pub middle_between : (job : Job) (round p r m : ℕ) → ByMiddle job round p r m → Between job round p r m
middle_between job round p r m b = elim (cases_lt b.first.k b.second.k) [
  | inl low ↦ record { k = b.second.k; lower = b.second.lower; first = within_le job b.second.k b.first.k p m (omega arith) b.first.within; second = b.second.within }
  | inr high ↦ record { k = b.first.k; lower = b.first.lower; first = b.first.within; second = within_le job b.first.k b.second.k m r (omega arith) b.second.within }
]

-- what is between two packets is one
pub middle_packet : (job : Job) (round p r m : ℕ) → ByMiddle job round p r m → IsPacket job m
middle_packet job round p r m b = within_second job b.first.k p m b.first.within
