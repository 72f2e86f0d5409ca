use Rattle.std.proofs.Common.{arith}
use Rattle.hq_rows.proofs.Exchanging.{turned_whole}
use Rattle.hq_rows.proofs.columns.turn_rows.Goals as goal

pub returns : goal.returns
returns c = turned_whole c.args.rows.now c.loop-place.table (omega (arith, c.loop-place.auto.table, c.requires)) (λ place part l m. c.loop-place.invariant place part (omega (arith, l, c.loop-place-test.false)) m)
