use Rattle.std.proofs.Common.{length}
use Rattle.std.specs.Prelude.{map}
use Rattle.hq_cert.specs.View.{pair_of}
use Rattle.hq_certread.specs.Ahead.{LeadingPairs}
use Rattle.hq_certread.proofs.leading.leading_pairs.Given as goal

abbrev pub invariant-loop-pair : goal.invariant-loop-pair
invariant-loop-pair l = LeadingPairs l.before l.text l.rest l.taken (map pair_of l.fn.pairs.items) (map pair_of l.pairs.items)

abbrev pub decreases-loop-pair : goal.decreases-loop-pair
decreases-loop-pair l = length l.rest
