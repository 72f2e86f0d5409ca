use Rattle.hq_graph.proofs.Joining.{both_on}
use Rattle.hq_explain.specs.Explain.{LackText, WouldOrder}
use Rattle.hq_explain.proofs.Saying.{would_order_on}
use Rattle.hq_explain.proofs.pairs.write_open.Goals as goal

pub returns : goal.returns
returns g c =
    let start = g.W.Write.contents c.args.writer.now in
    let one = g.W.Write.contents c.write_lack.new.writer in
    let two = g.W.Write.contents c.write_changes.new.writer in
    let order = c.args.before.now in
    both_on c.write_changes.result start one two (LackText c.args.job.now order c.args.a c.args.b c.args.unshown) (WouldOrder order c.args.a c.args.b) c.in_ok-write_lack.ensures
    (would_order_on c.write_changes.result one two order c.args.a c.args.b c.args.list.now c.requires c.write_changes.ensures)
