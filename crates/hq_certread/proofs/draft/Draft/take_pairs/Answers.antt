use Rattle.std.specs.Prelude.{map}
use Rattle.hq_cert.specs.View.{pair_of}
use Rattle.hq_certread.specs.DraftView.{state_of}
use Rattle.hq_certread.proofs.Taking.{pairs_taken}
use Rattle.hq_certread.proofs.draft.Draft.take_pairs.Goals as goal

pub returns-clause-taken : goal.returns-clause-taken
returns-clause-taken c = pairs_taken _ _ _ _ (state_of c.args.self.now) (map pair_of c.leading_pairs.new.pairs.items) c.in_ok-taken.ensures c.requires c.in-Some.ensures
