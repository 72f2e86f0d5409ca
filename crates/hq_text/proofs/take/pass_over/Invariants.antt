use Rattle.std.proofs.Common.{ℕ, List}
use Rattle.hq_text.specs.Turns.{Gives}
use Rattle.hq_text.proofs.take.pass_over.Given as goal

abbrev pub invariant-loop-turn : goal.invariant-loop-turn
invariant-loop-turn g l = record {
  given : List ℕ;
  turned : Gives _ g.S.Source.Turned l.initial.source l._turn given l.source;
}
