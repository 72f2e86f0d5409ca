use Rattle.hq_board.specs.Calls.{IsSeatOf}
use Rattle.hq_run_tests.proofs.boards.observes_one.Given as goal

abbrev pub invariant-loop : goal.invariant-loop
invariant-loop l = IsSeatOf l.board l.seat
