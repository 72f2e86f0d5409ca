use Rattle.std.proofs.lemmas.Slice.Eq.{strip_prefix_is}
use Rattle.hq_certread.proofs.OnePass.{from_match, nat_tells}
use Rattle.hq_certread.proofs.one_pass.behind.Goals as goal

pub returns-clause-ahead : goal.returns-clause-ahead
returns-clause-ahead c = from_match _ _ c.strip_prefix.result (strip_prefix_is nat_tells c.args.text.now c.args.bytes.now c.strip_prefix.result c.strip_prefix.ensures.cases)
