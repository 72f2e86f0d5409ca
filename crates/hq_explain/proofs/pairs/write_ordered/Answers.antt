use Rattle.std.proofs.Common.{ap, refl, true}
use Rattle.hq_model.specs.Order.{Before}
use Rattle.hq_graph.specs.Graph.{Is, Then, Where}
use Rattle.hq_graph.proofs.Joining.{so, both, both_on}
use Rattle.hq_explain.specs.Explain.{PathText}
use Rattle.hq_explain.specs.Texts.{head_text, hows_of, kinds_text}
use Rattle.hq_explain.proofs.pairs.write_ordered.Goals as goal

pub returns : goal.returns
returns g c =
    let at = g.W.Write.contents in
    let start = at c.args.writer.now in
    let one = at c.write_head.new.writer in
    let two = at c.write_kinds.new.writer in
    let three = at c.write_path.new.writer in
    let job = c.args.job.now in
    let order = c.args.before.now in
    let d = c.args.directed in
    let head = head_text job c.args.a c.args.b true in
    let kinds = kinds_text job d.first d.second (hows_of d.shown) in
    both_on c.write_path.result start two three (Then (Is head) (Is kinds)) (Where (Before order d.first d.second) (PathText job order d.first d.second))
    (both start one two (Is head) (Is kinds) (so start one (Is head) head refl c.in_ok-write_head.ensures) (so one two (Is kinds) (kinds_text job d.first d.second c.hows_of.result) (ap (kinds_text job d.first d.second) c.hows_of.ensures) c.in_ok-write_kinds.ensures)) c.write_path.ensures
