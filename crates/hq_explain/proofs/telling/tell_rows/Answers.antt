use Rattle.std.proofs.Common.{arith}
use Rattle.hq_explain.proofs.Counting.{rows_more, rows_none}
use Rattle.hq_explain.proofs.telling.tell_rows.Goals as goal

pub loop-a-init : goal.loop-a-init
loop-a-init g c = (omega arith, rows_none (g.W.Write.contents c.args.writer.now) c.args.job.now c.args.before.now c.args.all)

pub loop-a-preserved : goal.loop-a-preserved
loop-a-preserved g c =
    let at = g.W.Write.contents in
    let i = c.loop-a.invariant in (
      omega (arith, i.0, c.in_ok-count.ensures.more),
      rows_more (at c.args.writer.now) (at c.loop-a.writer) (at c.tell_row.new.writer) c.args.job.now c.args.before.now c.args.all c.loop-a.a c.loop-a.count c.in_ok-count.count i.1 c.in_ok-count.ensures.told,
    )
