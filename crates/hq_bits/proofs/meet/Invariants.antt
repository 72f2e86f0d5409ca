use Rattle.std.proofs.Common.{bit_and}
use Rattle.hq_bits.proofs.Sets.{JoinedUpto}
use Rattle.hq_bits.proofs.meet.Given as goal

abbrev pub invariant-loop-i : goal.invariant-loop-i
invariant-loop-i l = JoinedUpto bit_and l.fn.row l.other l.i l.row
