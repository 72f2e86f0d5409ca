use Rattle.std.proofs.Common.{◌≡◌, drop}
use Rattle.std.specs.Prelude.{map}
use Rattle.hq_certread.specs.LineTests.{each, number_said}
use Rattle.hq_certread.proofs.Each.{with_front}
use Rattle.hq_certread.proofs.operands.numbers_said.Given as goal

abbrev pub invariant-loop-word : goal.invariant-loop-word
invariant-loop-word l = with_front l.numbers.items (each number_said (map (λ w. w.now) (drop l.word-index l.words))) ≡ each number_said (map (λ w. w.now) l.words)
