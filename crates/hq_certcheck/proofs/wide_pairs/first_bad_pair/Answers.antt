use Rattle.std.proofs.Common.{arith, map, length, ◌<◌}
use Rattle.std.proofs.lemmas.List.{length-map}
use Rattle.hq_cert.specs.View.{pair_of}
use Rattle.hq_job.specs.Plan.{plan}
use Rattle.hq_certcheck.proofs.FirstPlaces.{all_follow, first_named}
use Rattle.hq_certcheck.proofs.Saying.{meant_at}
use Rattle.hq_certcheck.specs.Concluded.{bare}
use Rattle.hq_certcheck.proofs.wide_pairs.first_bad_pair.Goals as goal

pub bounds-pairs-k : goal.bounds-pairs-k
bounds-pairs-k g c = let there = c.in-Some.ensures.there in omega (arith, there, length-map c.args.pairs.now pair_of)

pub returns-in-Some : goal.returns-in-Some
returns-in-Some g c =
    let low : c.in-Some.k < length c.args.pairs.now = let there = c.in-Some.ensures.there in omega (arith, there, length-map c.args.pairs.now pair_of) in
    first_named (plan c.args.job.now) (map bare c.args.lines.now) (map pair_of c.args.pairs.now) c.in-Some.k (pair_of c.index-pairs-k.result) c.in-Some.ensures
    (meant_at pair_of c.args.pairs.now c.in-Some.k c.index-pairs-k.result low c.index-pairs-k.is)

pub returns-in-None : goal.returns-in-None
returns-in-None g c = all_follow (plan c.args.job.now) (map bare c.args.lines.now) (map pair_of c.args.pairs.now) c.in-None.ensures
