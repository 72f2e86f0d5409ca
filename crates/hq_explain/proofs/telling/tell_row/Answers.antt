use Rattle.std.proofs.Common.{arith}
use Rattle.hq_explain.proofs.Counting.{row_more}
use Rattle.hq_explain.proofs.telling.tell_row.Goals as goal

pub loop-b-preserved : goal.loop-b-preserved
loop-b-preserved g c =
    let at = g.W.Write.contents in
    let i = c.loop-b.invariant in (
      omega (arith, i.0, c.in_ok-now.ensures.more),
      row_more (at c.args.writer.now) (at c.loop-b.writer) (at c.tell_pair.new.writer) c.args.job.now c.args.before.now c.args.all c.args.a c.args.count c.loop-b.b c.loop-b.now c.in_ok-now.now i.1 c.in_ok-now.ensures.told,
    )
