use Rattle.std.proofs.Common.{◌≡◌, length}
use Rattle.std.specs.Prelude.{All}
use Rattle.hq_board.specs.Calls.{AreInOrder, HasNoList, IsSeatOf}
use Rattle.hq_board.specs.Rule.{dealer}
use Rattle.hq_board.proofs.board.Board.open.Given as goal

abbrev pub invariant-loop-queue : goal.invariant-loop-queue
invariant-loop-queue l =
    (l.token.table_id ≡ l.words.table.shared.table_id) × (l.token.me.0 ≡ dealer l.queue) × (l.queue-end ≡ length l.accepted.job.queues) × (l.words.job.now ≡ l.accepted.job)
    × All (IsSeatOf (record { job = l.accepted.job; table = l.words.table.shared.table_id })) l.seats.items × AreInOrder l.queue l.seats.items × All HasNoList l.seats.items
