use Rattle.hq_text.proofs.Taken.{Follows}
use Rattle.hq_text.specs.Intake.{HasRead}
use Rattle.hq_text.proofs.intake.read_lines.Given as goal

abbrev pub invariant-loop-turn : goal.invariant-loop-turn
invariant-loop-turn g l = Follows _ g.S.Source.Turned l.initial.source l._turn l.source (HasRead (g.L.TakesLines.Took l.fn.taker) g.L.TakesLines.Refuses l.reading)
