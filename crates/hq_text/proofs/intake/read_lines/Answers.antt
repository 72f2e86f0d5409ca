use Rattle.std.proofs.Common.{arith, inl, inr, refl, [], ◌++◌, take}
use Rattle.hq_text.proofs.Taken.{starts, gives_more, passes}
use Rattle.hq_text.proofs.intake.read_lines.Goals as goal

pub loop-turn-init : goal.loop-turn-init
loop-turn-init g c = record { text = []; given = starts _ g.S.Source.Turned c.args.source.now [] refl; so = c.new-reading.ensures }

pub returns-in_default-clause-fault : goal.returns-in_default-clause-fault
returns-in_default-clause-fault g c = inl (record {
  count = c.loop-turn._turn;
  text = c.loop-turn.invariant.text;
  last = c.loop-turn.source;
  buffer = c.turn.new.buffer;
  given = c.loop-turn.invariant.given;
  within = c.loop-turn-test.true;
  failed = c.in_default.ensures.turned;
})

pub loop-turn-preserved : goal.loop-turn-preserved
loop-turn-preserved g c =
    let so = c.loop-turn.invariant in
    record {
      text = so.text ++ take c.in-Some.count c.turn.new.buffer;
      given = gives_more _ g.S.Source.Turned c.args.source.now c.loop-turn.source c.turn.new.self c.loop-turn._turn c.in-Some.count so.text c.turn.new.buffer (so.text ++ take c.in-Some.count c.turn.new.buffer) so.given (omega arith) c.in-Some.ensures.turned refl;
      so = c.take.ensures c.args.taker so.text so.so;
    }

pub returns-clause-fault : goal.returns-clause-fault
returns-clause-fault g c = inr (passes _ g.S.Source.Turned 2000000 c.args.source.now c.loop-turn.source c.loop-turn._turn c.loop-turn.invariant.text c.loop-turn.invariant.given (omega arith) (omega arith))
