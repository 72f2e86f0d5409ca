use Rattle.std.proofs.Common.{refl, slice_get}
use Rattle.hq_graph.specs.Graph.{Is}
use Rattle.hq_graph.proofs.Joining.{each_more, so}
use Rattle.hq_explain.specs.Texts.{advice_there}
use Rattle.hq_explain.proofs.changes.write_each.Goals as goal

pub loop-p-preserved : goal.loop-p-preserved
loop-p-preserved g c =
    let list = c.args.list.now in
    let one = g.W.Write.contents c.loop-p.writer in
    let two = g.W.Write.contents c.write_one.new.writer in
    let line = advice_there c.loop-p.p (slice_get list c.loop-p.p) in
    each_more (g.W.Write.contents c.args.writer.now) one two (λ p. Is (advice_there p (slice_get list p))) c.loop-p.p c.loop-p.invariant (so one two (Is line) line refl c.in_ok-write_one.ensures)
