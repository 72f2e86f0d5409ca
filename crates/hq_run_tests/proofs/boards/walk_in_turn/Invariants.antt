use Rattle.std.specs.Prelude.{All}
use Rattle.hq_board.specs.Calls.{IsSeatOf}
use Rattle.hq_run_tests.proofs.boards.walk_in_turn.Given as goal

abbrev pub invariant-loop-place : goal.invariant-loop-place
invariant-loop-place l = All (IsSeatOf l.board) l.seats
