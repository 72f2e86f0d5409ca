use Rattle.std.proofs.Common.{arith, inl, inr}
use Rattle.hq_text.proofs.Taken.{starts, gives_more, ends, passes}
use Rattle.hq_text.proofs.take.take_turns.Goals as goal

pub loop-turn-init : goal.loop-turn-init
loop-turn-init g c = starts _ g.S.Source.Turned c.args.source.now c.new-text.result.items c.new-text.ensures.items

pub returns-in_default-clause-failed : goal.returns-in_default-clause-failed
returns-in_default-clause-failed g c = λ e. inl (record {
  count = c.loop-turn._turn;
  text = c.loop-turn.text.items;
  last = c.loop-turn.source;
  buffer = c.turn.new.buffer;
  given = c.loop-turn.invariant;
  within = c.loop-turn-test.true;
  failed = c.in_default.ensures.turned;
})

pub returns-then-count-eq0-clause-taken : goal.returns-then-count-eq0-clause-taken
returns-then-count-eq0-clause-taken g c = ends _ g.S.Source.Turned 2000000 c.args.source.now c.loop-turn.source c.turn.new.self c.loop-turn._turn c.in-Some.count c.loop-turn.text.items c.turn.new.buffer c.loop-turn.invariant c.loop-turn-test.true c.in-Some.ensures.turned c.if-count-eq0.true

pub loop-turn-preserved : goal.loop-turn-preserved
loop-turn-preserved g c = gives_more _ g.S.Source.Turned c.args.source.now c.loop-turn.source c.turn.new.self c.loop-turn._turn c.in-Some.count c.loop-turn.text.items c.turn.new.buffer c.extend_from_slice.new.self.items c.loop-turn.invariant (omega arith) c.in-Some.ensures.turned (let f = c.extend_from_slice.ensures.items in rw c.if-is_err.ensures.negation at f)

pub returns-clause-failed : goal.returns-clause-failed
returns-clause-failed g c = λ e. inr (passes _ g.S.Source.Turned 2000000 c.args.source.now c.loop-turn.source c.loop-turn._turn c.loop-turn.text.items c.loop-turn.invariant (omega arith) (omega arith))
