use Rattle.std.proofs.Common.{◌/◌, ◌<◌}
use Rattle.hq_bits.proofs.First.{NoneIn}
use Rattle.hq_bits.proofs.first_from.Given as goal

abbrev pub invariant-loop-place : goal.invariant-loop-place
invariant-loop-place l = record {
  behind : l.from / 64 < l.place;
  none : NoneIn l.row l.from l.place;
}
