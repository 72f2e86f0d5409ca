use Rattle.hq_board.specs.Calls.{IsSeatOf}
use Rattle.hq_run_tests.proofs.boards.walks.Given as goal

abbrev pub invariant-loop-packet : goal.invariant-loop-packet
invariant-loop-packet l = IsSeatOf l.board l.seat
