use Rattle.std.proofs.lemmas.List.Elements.{All-set}
use Rattle.hq_board.specs.Calls.{IsSeatOf}
use Rattle.hq_run_tests.proofs.boards.walk_in_turn.Goals as goal

pub returns-then-not-walks : goal.returns-then-not-walks
returns-then-not-walks c = All-set (IsSeatOf c.args.board.now) c.loop-place.seats c.loop-place.place c.walks.new.seat c.walks.ensures c.loop-place.invariant

pub loop-place-preserved : goal.loop-place-preserved
loop-place-preserved c = All-set (IsSeatOf c.args.board.now) c.loop-place.seats c.loop-place.place c.walks.new.seat c.walks.ensures c.loop-place.invariant
