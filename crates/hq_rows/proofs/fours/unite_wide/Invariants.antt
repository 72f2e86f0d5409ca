use Rattle.hq_rows.proofs.Quartets.{FiveUpto}
use Rattle.hq_rows.proofs.fours.unite_wide.Given as goal

abbrev pub invariant-loop-i : goal.invariant-loop-i
invariant-loop-i l = FiveUpto l.fn.row l.a l.b l.c l.d l.i l.row
