use Rattle.std.proofs.Common.{sym, ◌∙◌}
use Rattle.hq_explain.proofs.Counting.{pair_left, pair_said}
use Rattle.hq_explain.proofs.telling.tell_if.Goals as goal

pub returns-then-not-is_told-clause-told : goal.returns-then-not-is_told-clause-told
returns-then-not-is_told-clause-told g c =
    pair_left (g.W.Write.contents c.args.writer.now) c.args.job.now c.args.before.now c.args.all c.args.a c.args.b c.args.count c.requires.pair (sym c.is_told.ensures ∙ c.if-not-is_told.true)

pub returns-clause-told : goal.returns-clause-told
returns-clause-told g c =
    pair_said (g.W.Write.contents c.args.writer.now) (g.W.Write.contents c.write_pair.new.writer) c.args.job.now c.args.before.now c.args.all c.args.a c.args.b c.args.count c.in_ok-_ordered._ordered c.requires.pair
    (sym c.is_told.ensures ∙ c.if-not-is_told.false) c.in_ok-_ordered.ensures.said
