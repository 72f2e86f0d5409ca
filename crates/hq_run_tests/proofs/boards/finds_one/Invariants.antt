use Rattle.hq_board.specs.Calls.{IsSeatOf}
use Rattle.hq_run_tests.proofs.boards.finds_one.Given as goal

abbrev pub invariant-loop-slot : goal.invariant-loop-slot
invariant-loop-slot l = IsSeatOf l.board l.seat
