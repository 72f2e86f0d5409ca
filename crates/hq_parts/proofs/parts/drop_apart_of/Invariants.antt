use Rattle.std.proofs.Common.{◌≡◌, length}
use Rattle.hq_parts.specs.Parts.{LeftOf}
use Rattle.hq_parts.proofs.parts.drop_apart_of.Given as goal

abbrev pub invariant-each : goal.invariant-each
invariant-each l = record {
  len : length l.row ≡ length l.fn.row;
  left : LeftOf l.fn.row l.touches l.a l.row;
}

abbrev pub decreases-each : goal.decreases-each
decreases-each l = l.rest
