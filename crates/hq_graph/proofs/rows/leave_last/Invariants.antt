use Rattle.std.proofs.Common.{◌-◌, ◌<◌, ◌≤◌, IsTrue, length}
use Rattle.hq_bits.specs.Bits.{has}
use Rattle.hq_graph.proofs.Betweens.{Left}
use Rattle.hq_graph.proofs.rows.leave_last.Given as goal

abbrev pub invariant-each : goal.invariant-each
invariant-each l = record {
  upto : l.m ≤ length l.before.packets;
  there : l.m < length l.before.packets → IsTrue (has l.row l.m);
  left : Left l.before l.fn.row l.row l.m;
}

abbrev pub decreases-each : goal.decreases-each
decreases-each l = length l.before.packets - l.m
