use Rattle.std.proofs.Common.{arith, subst}
use Rattle.hq_witness.specs.Differences.{AreOther}
use Rattle.hq_witness.proofs.Pairs.{none_of_more}
use Rattle.hq_witness.proofs.difference.read_difference.Goals as goal

pub loop-sighting-preserved : goal.loop-sighting-preserved
loop-sighting-preserved c =
    none_of_more c.args.good.now.reads.items c.as_slice-sighting-items.result.now c.args.bad.now.reads.items c.deref.result.now c.loop-sighting.sighting-index _ c.as_slice-sighting-items.ensures.value c.deref.ensures.value c.loop-sighting-test.true c.loop-sighting.invariant c.in_default.ensures

pub returns : goal.returns
returns c = λ s other has there apart.
    c.loop-sighting.invariant has.0 s other (omega (arith, has.1, c.loop-sighting-test.false, c.as_slice-sighting-items.ensures.len)) there
    (subst (λ x. AreOther x other) has.2 apart)
