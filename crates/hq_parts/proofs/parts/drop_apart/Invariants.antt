use Rattle.std.proofs.Common.{◌≡◌, length}
use Rattle.hq_parts.specs.Parts.{LeftOf}
use Rattle.hq_parts.proofs.parts.drop_apart.Given as goal

abbrev pub invariant-loop-place : goal.invariant-loop-place
invariant-loop-place l = record {
  len : length l.row ≡ length l.fn.row;
  left : LeftOf l.fn.row l.touches l.a l.row;
}
