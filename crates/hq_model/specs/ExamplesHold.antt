-- What holds of the small jobs: so what the definitions promise isn't empty, and what they refuse isn't everything.
use Rattle.std.specs.Prelude.{◌≡◌, ℕ, List, [], ◌∷◌, Some}
use Rattle.hq_model.specs.Order.{Before, OrderList, StuckSet}
use Rattle.hq_model.specs.Fence.{ShownFor, Reason, Ordered}
use Rattle.hq_model.specs.Fence.Conflict.{WriteRead}
use Rattle.hq_model.specs.Fence.Why.{Unordered, NotReleased, NotAcquired}
use Rattle.hq_model.specs.Machine.{State, Run, bound}
use Rattle.hq_model.specs.Machine.Phase.{Launched, Complete}
use Rattle.hq_model.specs.OneByOne.{one_by_one, given}
use Rattle.hq_model.specs.Certificate.{CertHolds}
use Rattle.hq_model.specs.Theorems.{Valid, Headline}
use Rattle.hq_model.specs.HoldsBack.{AlwaysBefore, HoldsBack, FullOrderList}
use Rattle.hq_model.specs.Examples.{fill_copy, fill_copy_certificate, without_bits, copy_fill, fence_between}
use Rattle.hq_model.specs.Examples.{two_agents, two_writers, chained, chained_certificate, unacquired, waits_for_itself}
use Rattle.hq_model.specs.Examples.{either, either_certificate, free_branch, back_branch, three_in_ring, stuck_ring}
use Rattle.hq_model.specs.Examples.{moved_ring, one_byte, unreleased_run, early_fill_run, two_nops, second_first_run}
use Rattle.hq_model.specs.Examples.{slot_in_use}
use Rattle.hq_packet.specs.declared.packet.Scope.TheVariants as scope

-- Jobs that are ordered, by the bit, by a chain on each agent, by a barrier-OR, by their ring, and where only a
-- read comes first.
pub record OrderedRows : Type 0 where
  pub fill_copy_valid : Valid fill_copy
  pub fill_copy_certified : CertHolds fill_copy fill_copy_certificate
  pub fill_copy_ordered : Ordered fill_copy
  pub copy_fill_ordered : Ordered copy_fill
  pub chained_valid : Valid chained
  pub chained_certified : CertHolds chained chained_certificate
  pub chained_ordered : Ordered chained
  pub either_certified : CertHolds either either_certificate
  pub either_ordered : Ordered either
  pub ring_valid : Valid three_in_ring
  pub ring_ordered : Ordered three_in_ring

-- What these leave in memory, what a packet is given, and how many work steps they take.
pub record ResultsOfRows : Type 0 where
  pub given_seven : given fill_copy (0 ∷ 1 ∷ []) 1 ≡ 7 ∷ 7 ∷ 7 ∷ 7 ∷ []
  pub fill_copy_memory : one_by_one fill_copy (0 ∷ 1 ∷ []) 5 ≡ 7
  pub copy_fill_memory : one_by_one copy_fill (0 ∷ 1 ∷ []) 5 ≡ 0
  pub chained_memory : one_by_one chained (0 ∷ 1 ∷ 2 ∷ 3 ∷ 4 ∷ []) 5 ≡ 7
  pub fill_copy_bound : bound fill_copy ≡ 34
  pub chained_bound : bound chained ≡ 46
  pub either_bound : bound either ≡ 47
  pub ring_bound : bound three_in_ring ≡ 12
  pub moved_bound : bound moved_ring ≡ 13

-- Jobs that are not ordered, with the reason.
pub record RefusedRows : Type 0 where
  pub no_bit : Reason without_bits 0 1 Unordered
  -- agent scope isn't enough for two agents
  pub agents_apart : Reason two_agents 0 2 NotReleased
  pub no_release : Reason two_writers 0 2 NotReleased
  -- one barrier packet can't be both fences
  pub one_fence : Reason fence_between 0 2 NotAcquired
  pub one_fence_not_shown : ShownFor fence_between WriteRead 0 2 → ⊥
  pub no_acquire : Reason unacquired 0 4 NotAcquired
  pub no_acquire_not_shown : ShownFor unacquired WriteRead 0 4 → ⊥
  pub unacquired_refused : Ordered unacquired → ⊥

-- A barrier-OR puts behind it what comes before each of its dependencies, and nothing else.
pub record EitherRows : Type 0 where
  pub fill_before_copy : Before either 0 4
  pub not_the_first : Before either 1 4 → ⊥
  pub not_the_second : Before either 2 4 → ⊥
  pub not_past_a_free_branch : Before free_branch 0 4 → ⊥

-- Where a dependency of a barrier-OR waits for that barrier-OR, no order list is full, and the order may miss a packet
-- that every run completes first. What holds back doesn't.
pub record MissedRows : Type 0 where
  pub either_full : FullOrderList either (0 ∷ 1 ∷ 2 ∷ 3 ∷ 4 ∷ [])
  pub back_valid : Valid back_branch
  pub back_order : OrderList back_branch (0 ∷ 1 ∷ 2 ∷ [])
  pub not_full : (list : List ℕ) → FullOrderList back_branch list → ⊥
  pub held : HoldsBack back_branch 0 1
  pub always : AlwaysBefore back_branch 0 1
  pub missed : Before back_branch 0 1 → ⊥

-- Rings and jobs that can't end.
pub record StuckRows : Type 0 where
  pub itself_stuck : StuckSet waits_for_itself (0 ∷ [])
  pub ring_order : OrderList three_in_ring (0 ∷ 1 ∷ 2 ∷ [])
  pub ring_stuck : StuckSet stuck_ring (0 ∷ 1 ∷ 2 ∷ [])
  pub moved_order : OrderList moved_ring (2 ∷ 0 ∷ 1 ∷ [])
  pub not_an_order : OrderList moved_ring (0 ∷ 2 ∷ 1 ∷ []) → ⊥

-- Runs: a slot in use isn't submitted to again; packets complete out of order; and without a release, or without an
-- acquire, a copy reads the byte from before the fill, which its order doesn't give it.
pub record RunsOfRows : Type 0 where
  pub slot_waits : (state : State) → Run three_in_ring slot_in_use state → ⊥
  pub second_first : (state : State) × Run two_nops second_first_run state × (state.phase 0 ≡ Launched)
      × (state.phase 1 ≡ Complete)
  pub unreleased_read : (state : State) × Run (one_byte scope.None scope.System) unreleased_run state
      × (state.read 1 0 ≡ Some 0)
  pub early_fill_read : (state : State) × Run (one_byte scope.Agent scope.None) early_fill_run state
      × (state.read 1 0 ≡ Some 0)
  pub one_byte_given : given (one_byte scope.Agent scope.None) (0 ∷ 1 ∷ []) 1 ≡ 7 ∷ []
  pub unreleased_fails : Headline (one_byte scope.None scope.System) → ⊥
  pub early_fill_fails : Headline (one_byte scope.Agent scope.None) → ⊥
