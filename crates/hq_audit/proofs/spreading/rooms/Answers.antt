use Rattle.std.proofs.Common.{◌+◌, ap, sym, subst, ◌∙◌, length, length-append}
use Rattle.hq_audit.specs.Rowed.{AreRooms}
use Rattle.hq_audit.proofs.Rowing.{one_room}
use Rattle.hq_audit.proofs.spreading.rooms.Goals as goal

pub loop-part-init : goal.loop-part-init
loop-part-init c = record {
  are = subst (AreRooms c.args.before.now) (sym c.in_ok-rooms.ensures.items) tt;
  count = ap length c.in_ok-rooms.ensures.items;
}

pub loop-part-preserved : goal.loop-part-preserved
loop-part-preserved c =
    let job = c.args.before.now in
    let rooms = c.loop-part.rooms.items in
    record {
      are = subst (AreRooms job) (sym c.in_ok-push.ensures.items) (one_room job rooms _ c.loop-part.invariant.are c.in_ok-with_room.ensures.are);
      count = ap length c.in_ok-push.ensures.items ∙ length-append rooms _ ∙ ap (λ n. n + 1) c.loop-part.invariant.count;
    }
