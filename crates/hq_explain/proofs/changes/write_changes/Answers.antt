use Rattle.std.proofs.Common.{Bool, List, ℕ, if◌then◌else◌, ap, length, slice_get}
use Rattle.hq_graph.specs.Graph.{Each, Is}
use Rattle.hq_graph.proofs.Joining.{both_on, so}
use Rattle.hq_explain.specs.Explain.{ChangesText}
use Rattle.hq_explain.specs.Texts.{advice_there, changes_title, no_change}
use Rattle.hq_explain.proofs.changes.write_changes.Goals as goal

pub returns : goal.returns
returns g c =
    let list = c.args.list.now in
    let title : Bool → List ℕ = λ any. if any then changes_title else no_change in
    let start = g.W.Write.contents c.args.writer.now in
    let one = g.W.Write.contents c.write_title.new.writer in
    let two = g.W.Write.contents c.write_each.new.writer in
    both_on c.write_each.result start one two (ChangesText list) (Each (λ p. Is (advice_there p (slice_get list p))) (length list))
    (so start one (ChangesText list) (title c.is_any-any.result) (ap title c.is_any-any.ensures) c.in_ok-write_title.ensures) c.write_each.ensures
