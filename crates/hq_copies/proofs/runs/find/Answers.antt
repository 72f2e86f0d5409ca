use Rattle.std.proofs.Common.{arith, subst}
use Rattle.hq_copies.proofs.Finds.{RunsPassed, runs_none, runs_one, found_outside, found_inside}
use Rattle.hq_copies.proofs.runs.find.Goals as goal

pub loop-run-init : goal.loop-run-init
loop-run-init c = runs_none c.args.edges.now c.args.number c.requires

pub loop-run-preserved : goal.loop-run-preserved
loop-run-preserved c = (runs_one c.args.edges.now c.args.number c.place-at.result c.loop-run.run c.loop-run.count c.place-at.ensures.within c.place-at.ensures.below c.loop-run-test.true c.loop-run.invariant).2

pub returns-then-at-eq0-clause-held : goal.returns-then-at-eq0-clause-held
returns-then-at-eq0-clause-held c =
    let all = subst (λ n. RunsPassed c.args.edges.now c.args.number n c.loop-run.count) (omega arith) c.loop-run.invariant in
    (found_outside c.args.edges.now c.args.number c.place-at.result c.loop-run.count c.place-at.ensures.within c.place-at.ensures.above c.if-at-eq0.true all).0

pub returns-clause-held : goal.returns-clause-held
returns-clause-held c =
    let all = subst (λ n. RunsPassed c.args.edges.now c.args.number n c.loop-run.count) (omega arith) c.loop-run.invariant in
    (found_inside c.args.edges.now c.args.number c.place-at.result c.loop-run.count c.place-at.ensures.within c.place-at.ensures.below c.place-at.ensures.above (omega (arith, c.if-at-eq0.false)) all).2
