use Rattle.std.proofs.Common.{◌++◌, take, [], arith, refl}
use Rattle.hq_text.proofs.Taken.{starts, gives_more}
use Rattle.hq_text.proofs.take.pass_over.Goals as goal

pub loop-turn-init : goal.loop-turn-init
loop-turn-init g c = record { given = []; turned = starts _ g.S.Source.Turned c.args.source.now [] refl }

pub loop-turn-preserved : goal.loop-turn-preserved
loop-turn-preserved g c =
    let so = c.loop-turn.invariant in
    let all = so.given ++ take c.in-Some.field-0 c.turn.new.buffer in
    record {
      given = all;
      turned = gives_more _ g.S.Source.Turned c.args.source.now c.loop-turn.source c.turn.new.self c.loop-turn._turn c.in-Some.field-0 so.given c.turn.new.buffer all so.turned (omega (arith, c.in-Some.field-0-test)) c.in-Some.ensures.turned refl;
    }
