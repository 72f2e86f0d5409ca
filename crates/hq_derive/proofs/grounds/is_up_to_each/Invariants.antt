use Rattle.std.proofs.Common.{◌≡◌, ℕ, ◌<◌, Some, slice_get}
use Rattle.hq_order.specs.Rounds.{Reaches}
use Rattle.hq_derive.specs.Rests.{Below}
use Rattle.hq_derive.proofs.grounds.is_up_to_each.Given as goal

abbrev pub invariant-loop-slot : goal.invariant-loop-slot
invariant-loop-slot l = (i s : ℕ) → i < l.slot-index → slice_get l.slots i ≡ Some (Some s) → Reaches l.before (Below l.before l.round) l.p s
