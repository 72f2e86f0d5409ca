use Rattle.std.proofs.Common.{◌≡◌, length}
use Rattle.hq_audit.specs.Rowed.{AreRooms}
use Rattle.hq_audit.proofs.spreading.rooms.Given as goal

abbrev pub invariant-loop-part : goal.invariant-loop-part
invariant-loop-part l = record {
  are : AreRooms l.before l.rooms.items;
  count : length l.rooms.items ≡ l._part;
}
