use Rattle.std.proofs.Common.{map}
use Rattle.hq_cert.specs.View.{pair_of}
use Rattle.hq_job.specs.Plan.{plan}
use Rattle.hq_model.specs.Certificate.{PairHolds}
use Rattle.hq_certcheck.proofs.Firsts.{AllBelow}
use Rattle.hq_certcheck.specs.Concluded.{bare}
use Rattle.hq_certcheck.proofs.pairs.first_bad_pair.Given as goal

abbrev pub invariant-loop-pair : goal.invariant-loop-pair
invariant-loop-pair l = AllBelow (PairHolds (plan l.job) (map bare l.lines)) (map pair_of l.pairs) l.pair-index
