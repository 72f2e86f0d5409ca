use Rattle.std.proofs.Common.{◌≡◌, filter, not}
use Rattle.hq_model.specs.Machine.{listed}
use Rattle.hq_bits.specs.Bits.{has}
use Rattle.hq_schedule.proofs.scheduling.left.Given as goal

abbrev pub invariant-loop-number : goal.invariant-loop-number
invariant-loop-number l = l.left.items ≡ filter (λ p. not (has l.come p)) (listed l.number (λ p. p))
