use Rattle.hq_job.specs.Plan.{plan}
use Rattle.hq_explain.proofs.Whole.{all_on, first_on, pair_on, unwritten_on}
use Rattle.hq_explain.proofs.explaining.explain_which.Goals as goal

pub returns-in-First-clause-explained : goal.returns-in-First-clause-explained
returns-in-First-clause-explained g c =
    first_on c.explain_pairs.result (g.W.Write.contents c.args.writer.now) (g.W.Write.contents c.explain_pairs.new.writer) c.args.job.now (plan c.args.job.now) c.args.which c.in-First.is c.requires.order
    c.explain_pairs.ensures.explained c.explain_pairs.ensures.found

pub returns-in-All-clause-explained : goal.returns-in-All-clause-explained
returns-in-All-clause-explained g c =
    all_on c.explain_pairs-in-All.result (g.W.Write.contents c.args.writer.now) (g.W.Write.contents c.explain_pairs-in-All.new.writer) c.args.job.now (plan c.args.job.now) c.args.which c.in-All.is c.requires.order
    c.explain_pairs-in-All.ensures.explained c.explain_pairs-in-All.ensures.found

pub returns-in-Pair-clause-explained : goal.returns-in-Pair-clause-explained
returns-in-Pair-clause-explained g c =
    pair_on c.explain_pair.result (g.W.Write.contents c.args.writer.now) (g.W.Write.contents c.explain_pair.new.writer) c.args.job.now (plan c.args.job.now) c.args.which c.in-Pair.p c.in-Pair.r c.in-Pair.is
    c.requires.order c.explain_pair.ensures.said

pub returns-in-Pair-clause-broken : goal.returns-in-Pair-clause-broken
returns-in-Pair-clause-broken g c =
    unwritten_on c.explain_pair.result g.W.Write.contents c.args.writer.now c.explain_pair.new.writer c.args.job.now (plan c.args.job.now) c.explain_pair.ensures.unwritten
