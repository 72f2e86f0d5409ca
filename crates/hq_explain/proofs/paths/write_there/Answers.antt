use Rattle.std.proofs.Common.{refl}
use Rattle.hq_graph.specs.Graph.{Is}
use Rattle.hq_graph.proofs.Joining.{so, both_on}
use Rattle.hq_explain.specs.Explain.{StepsText}
use Rattle.hq_explain.specs.Texts.{path_title}
use Rattle.hq_explain.proofs.paths.write_there.Goals as goal

pub returns : goal.returns
returns g c =
    let start = g.W.Write.contents c.args.writer.now in
    let one = g.W.Write.contents c.write_title.new.writer in
    let two = g.W.Write.contents c.write_steps.new.writer in
    let title = path_title c.args.p c.args.r in
    both_on c.write_steps.result start one two (Is title) (StepsText c.args.job.now c.args.before.now c.args.p c.args.r) (so start one (Is title) title refl c.in_ok-write_title.ensures) c.write_steps.ensures
