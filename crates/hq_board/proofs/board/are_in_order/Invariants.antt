use Rattle.std.proofs.Common.{◌≡◌, ℕ, ◌<◌, Some, slice_get}
use Rattle.hq_board.specs.declared.known.Known.{Known}
use Rattle.hq_board.proofs.board.are_in_order.Given as goal

abbrev pub invariant-loop-queue : goal.invariant-loop-queue
invariant-loop-queue l = (q : ℕ) (seat : Known) → q < l.queue → slice_get l.seats q ≡ Some seat → seat.queue ≡ q
