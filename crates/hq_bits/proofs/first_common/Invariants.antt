use Rattle.hq_bits.proofs.Shared.{Apart}
use Rattle.hq_bits.proofs.first_common.Given as goal

abbrev pub invariant-loop-i : goal.invariant-loop-i
invariant-loop-i l = Apart l.left l.right l.i
