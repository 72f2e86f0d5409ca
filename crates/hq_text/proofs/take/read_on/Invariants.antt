use Rattle.std.proofs.Common.{◌≡◌, ℕ, List, ◌++◌}
use Rattle.std.specs.Prelude.{IfOk}
use Rattle.hq_text.specs.Turns.{Gives}
use Rattle.hq_text.proofs.take.read_on.Given as goal

abbrev pub invariant-loop-turn : goal.invariant-loop-turn
invariant-loop-turn g l = record {
  given : List ℕ;
  turned : Gives _ g.S.Source.Turned l.initial.source l._turn given l.source;
  kept : IfOk l.kept (λ _. l.text.items ≡ l.initial.text.items ++ given);
}
