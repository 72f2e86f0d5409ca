use Rattle.hq_text.specs.Turns.{Gives}
use Rattle.hq_text.proofs.take.take_turns.Given as goal

abbrev pub invariant-loop-turn : goal.invariant-loop-turn
invariant-loop-turn g l = Gives _ g.S.Source.Turned l.initial.source l._turn l.text.items l.source
