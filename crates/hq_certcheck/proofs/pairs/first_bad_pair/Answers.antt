use Rattle.std.proofs.Common.{arith, refl, map, false, IsTrue, ◌≡◌}
use Rattle.std.proofs.lemmas.List.{length-map}
use Rattle.hq_cert.specs.View.{pair_of}
use Rattle.hq_job.specs.Plan.{plan}
use Rattle.hq_model.specs.Certificate.{PairHolds}
use Rattle.hq_certcheck.proofs.Saying.{meant_at}
use Rattle.hq_certcheck.proofs.Firsts.{below_next, below_none, below_all}
use Rattle.hq_certcheck.specs.Concluded.{bare}
use Rattle.hq_certcheck.proofs.pairs.first_bad_pair.Goals as goal

pub loop-pair-init : goal.loop-pair-init
loop-pair-init c = below_none (PairHolds (plan c.args.job.now) (map bare c.args.lines.now)) (map pair_of c.args.pairs.now)

pub returns-then-not-pair_holds : goal.returns-then-not-pair_holds
returns-then-not-pair_holds c = record {
  k = c.loop-pair.pair-index;
  pair = pair_of c.pair-item.result;
  there = meant_at pair_of c.args.pairs.now c.loop-pair.pair-index c.pair-item.result c.loop-pair-test.true c.pair-item.is;
  first_is = refl;
  second_is = refl;
  bad = λ h. let t : IsTrue c.pair_holds.result = c.pair_holds.ensures.1 h in let no : c.pair_holds.result ≡ false = c.if-not-pair_holds.true in let never : ⊥ = cc in never;
  first = c.loop-pair.invariant.at;
}

pub loop-pair-preserved : goal.loop-pair-preserved
loop-pair-preserved c =
    below_next (PairHolds (plan c.args.job.now) (map bare c.args.lines.now)) (map pair_of c.args.pairs.now) c.loop-pair.pair-index (pair_of c.pair-item.result) c.loop-pair.invariant
    (meant_at pair_of c.args.pairs.now c.loop-pair.pair-index c.pair-item.result c.loop-pair-test.true c.pair-item.is)
    (c.pair_holds.ensures.0 c.if-not-pair_holds.false)

pub returns : goal.returns
returns c =
    below_all (PairHolds (plan c.args.job.now) (map bare c.args.lines.now)) (map pair_of c.args.pairs.now) c.loop-pair.pair-index c.loop-pair.invariant
    (omega (arith, c.loop-pair-test.false, length-map c.args.pairs.now pair_of))
