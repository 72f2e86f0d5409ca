use Rattle.hq_text.specs.Ahead.{DigitsSoFar}
use Rattle.hq_text.proofs.ahead.digits_on.Given as goal

abbrev pub invariant-loop-count : goal.invariant-loop-count
invariant-loop-count l = DigitsSoFar l.text l.number l.count
