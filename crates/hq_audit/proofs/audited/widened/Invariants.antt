use Rattle.std.proofs.Common.{◌≡◌, take}
use Rattle.hq_audit.proofs.audited.widened.Given as goal

abbrev pub invariant-loop-number : goal.invariant-loop-number
invariant-loop-number l = l.wide.items ≡ take l.number-index l.numbers
