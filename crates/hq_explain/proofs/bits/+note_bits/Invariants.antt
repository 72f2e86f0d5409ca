use Rattle.std.proofs.Common.{◌-◌}
use Rattle.hq_explain.proofs.bits.+note_bits.Given as goal

abbrev pub decreases-note_bits : goal.decreases-note_bits
decreases-note_bits l = l.hi - l.lo
