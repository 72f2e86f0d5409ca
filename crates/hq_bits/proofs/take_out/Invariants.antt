use Rattle.hq_bits.proofs.Sets.{JoinedUpto, less_word}
use Rattle.hq_bits.proofs.take_out.Given as goal

abbrev pub invariant-loop-i : goal.invariant-loop-i
invariant-loop-i l = JoinedUpto less_word l.fn.row l.other l.i l.row
