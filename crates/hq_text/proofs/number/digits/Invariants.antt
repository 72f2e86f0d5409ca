use Rattle.std.proofs.Common.{◌≡◌, drop}
use Rattle.hq_text.specs.Numbers.{read_on}
use Rattle.hq_text.proofs.number.digits.Given as goal

abbrev pub invariant-loop-digit : goal.invariant-loop-digit
invariant-loop-digit l = read_on l.number (drop l.digit-index l.word) ≡ read_on 0 l.word
