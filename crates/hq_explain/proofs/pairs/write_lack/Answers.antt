use Rattle.std.proofs.Common.{ap, refl, false}
use Rattle.hq_model.specs.Order.{Before}
use Rattle.hq_graph.specs.Graph.{Is, Then, Where}
use Rattle.hq_graph.proofs.Joining.{so, so_on, both, both_on}
use Rattle.hq_explain.specs.Explain.{PathText}
use Rattle.hq_explain.specs.Texts.{head_text, kinds_text, no_hows, why_line}
use Rattle.hq_explain.proofs.pairs.write_lack.Goals as goal

pub returns : goal.returns
returns g c =
    let at = g.W.Write.contents in
    let start = at c.args.writer.now in
    let one = at c.write_head.new.writer in
    let two = at c.write_kinds.new.writer in
    let three = at c.write_path.new.writer in
    let four = at c.write_why.new.writer in
    let job = c.args.job.now in
    let order = c.args.before.now in
    let u = c.args.unshown in
    let head = head_text job c.args.a c.args.b false in
    let kinds = kinds_text job u.p u.r no_hows in
    let why = why_line u.fault.why u.p u.r in
    let path = Where (Before order u.p u.r) (PathText job order u.p u.r) in
    both_on c.write_why.result start three four (Then (Then (Is head) (Is kinds)) path) (Is why)
    (both start two three (Then (Is head) (Is kinds)) path
    (both start one two (Is head) (Is kinds) (so start one (Is head) head refl c.in_ok-write_head.ensures) (so one two (Is kinds) (kinds_text job u.p u.r c.no_hows.result) (ap (kinds_text job u.p u.r) c.no_hows.ensures) c.in_ok-write_kinds.ensures)) c.in_ok-write_path.ensures)
    (so_on c.write_why.result three four (Is why) why refl c.write_why.ensures)
