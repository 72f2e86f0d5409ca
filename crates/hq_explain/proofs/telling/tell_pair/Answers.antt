use Rattle.hq_explain.specs.Told.{IsPair}
use Rattle.hq_explain.proofs.Counting.{pair_apart}
use Rattle.hq_explain.proofs.Trying.{not_when}
use Rattle.hq_explain.proofs.telling.tell_pair.Goals as goal

pub returns-then-not-is_pair-clause-told : goal.returns-then-not-is_pair-clause-told
returns-then-not-is_pair-clause-told g c =
    pair_apart (g.W.Write.contents c.args.writer.now) c.args.job.now c.args.before.now c.args.all c.args.a c.args.b c.args.count
    (not_when c.is_pair.result (IsPair c.args.before.now c.args.a c.args.b) c.is_pair.ensures c.if-not-is_pair.true)
