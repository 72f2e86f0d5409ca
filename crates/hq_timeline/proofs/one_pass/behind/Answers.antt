use Rattle.std.proofs.lemmas.Slice.Eq.{strip_prefix_is}
use Rattle.hq_timeline.proofs.OnePass.{from_match, nat_tells}
use Rattle.hq_timeline.proofs.one_pass.behind.Goals as goal

pub returns : goal.returns
returns c = from_match _ _ c.strip_prefix.result (strip_prefix_is nat_tells c.args.text.now c.args.first.now c.strip_prefix.result c.strip_prefix.ensures.cases)
