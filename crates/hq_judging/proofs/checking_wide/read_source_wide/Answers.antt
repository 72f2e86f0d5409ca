use Rattle.std.proofs.Common.{ℕ, [], ◌++◌, ◌*◌, inl, inr, refl, subst, arith}
use Rattle.hq_text.specs.Turns.{ComesTo, Ends, Fails, Gives}
use Rattle.hq_text.proofs.Taken.{ends_later, fails_later, gives_both, passes, starts}
use Rattle.hq_judging.proofs.checking_wide.read_source_wide.Goals as goal

pub loop-step-init : goal.loop-step-init
loop-step-init g c = record { text = []; given = starts _ g.S.Source.Turned c.args.source.now [] refl; so = c.new-reading.ensures }

pub loop-step-preserved : goal.loop-step-preserved
loop-step-preserved g c =
    let so = c.loop-step.invariant in
    let read = c.step.ensures in
    let more : Gives _ g.S.Source.Turned c.loop-step.source 1000 read.0 c.step.new.source = subst (λ came. ComesTo _ g.S.Source.Turned 1000 c.loop-step.source read.0 c.step.new.source came) c.in-More.is read.1 in
    record {
      text = so.text ++ read.0;
      given = subst (λ (n : ℕ). Gives _ g.S.Source.Turned c.args.source.now n (so.text ++ read.0) c.step.new.source) (omega arith) (gives_both _ g.S.Source.Turned c.args.source.now c.loop-step.source c.step.new.source (1000 * c.loop-step._step) 1000 so.text read.0 so.given more);
      so = read.2 c.args.checking so.text so.so;
    }

pub returns-in-Ok-clause-found : goal.returns-in-Ok-clause-found
returns-in-Ok-clause-found g c =
    let so = c.loop-step.invariant in
    let read = c.step.ensures in
    let end : Ends _ g.S.Source.Turned 1000 c.loop-step.source read.0 c.step.new.source = subst (λ came. ComesTo _ g.S.Source.Turned 1000 c.loop-step.source read.0 c.step.new.source came) c.in-End.is read.1 in
    record {
      text = so.text ++ read.0;
      ended = ends_later _ g.S.Source.Turned 2000000 1000 c.args.source.now c.loop-step.source c.step.new.source (1000 * c.loop-step._step) so.text read.0 so.given end (omega (arith, c.loop-step-test.true));
      so = c.in-Ok.ensures c.args.checking (so.text ++ read.0) (read.2 c.args.checking so.text so.so);
    }

pub returns-in-Err-clause-fault : goal.returns-in-Err-clause-fault
returns-in-Err-clause-fault g c =
    let so = c.loop-step.invariant in
    let read = c.step.ensures in
    let end : Ends _ g.S.Source.Turned 1000 c.loop-step.source read.0 c.step.new.source = subst (λ came. ComesTo _ g.S.Source.Turned 1000 c.loop-step.source read.0 c.step.new.source came) c.in-End.is read.1 in
    record {
      text = so.text ++ read.0;
      ended = ends_later _ g.S.Source.Turned 2000000 1000 c.args.source.now c.loop-step.source c.step.new.source (1000 * c.loop-step._step) so.text read.0 so.given end (omega (arith, c.loop-step-test.true));
      so = c.in-Err.ensures c.args.checking (so.text ++ read.0) (read.2 c.args.checking so.text so.so);
    }

pub returns-in-Failed-clause-fault : goal.returns-in-Failed-clause-fault
returns-in-Failed-clause-fault g c =
    let so = c.loop-step.invariant in
    let read = c.step.ensures in
    let failed : Fails _ g.S.Source.Turned 1000 c.loop-step.source c.step.new.source = subst (λ came. ComesTo _ g.S.Source.Turned 1000 c.loop-step.source read.0 c.step.new.source came) c.in-Failed.is read.1 in
    inl (fails_later _ g.S.Source.Turned 2000000 1000 c.args.source.now c.loop-step.source c.step.new.source (1000 * c.loop-step._step) so.text so.given failed (omega (arith, c.loop-step-test.true)))

pub returns-clause-fault : goal.returns-clause-fault
returns-clause-fault g c =
    let so = c.loop-step.invariant in
    inr (passes _ g.S.Source.Turned 2000000 c.args.source.now c.loop-step.source (1000 * c.loop-step._step) so.text so.given (omega (arith, c.loop-step-test.false)) (omega (arith, c.loop-step.auto._step-end)))
