use Rattle.hq_board.specs.Calls.{IsSeatOf}
use Rattle.hq_run_tests.proofs.seats.answer_so.Given as goal

abbrev pub invariant-loop-call : goal.invariant-loop-call
invariant-loop-call l = IsSeatOf l.board l.seat
