use Rattle.hq_bits.proofs.Cover.{CoversUpto}
use Rattle.hq_bits.proofs.covers.Given as goal

abbrev pub invariant-loop-i : goal.invariant-loop-i
invariant-loop-i l = CoversUpto l.row l.other l.i
