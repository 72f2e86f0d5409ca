use Rattle.std.proofs.Common.{◌≡◌, ◌≤◌, ◌-◌, ◌++◌, length, map, drop}
use Rattle.hq_events.specs.Events.{coarse_of}
use Rattle.hq_model.specs.Journal.{observations}
use Rattle.hq_runner.proofs.asking.ask_all.Given as goal

abbrev pub invariant-loop-slot : goal.invariant-loop-slot
invariant-loop-slot g l = record {
  room : l.slot ≤ length l.slots;
  list : map coarse_of l.desk.events.items ++ observations l.packet l.slot (drop l.slot l.slots) ≡ map coarse_of l.initial.desk.events.items ++ observations l.packet 0 l.slots;
}

abbrev pub decreases-loop-slot : goal.decreases-loop-slot
decreases-loop-slot g l = length l.slots - l.slot
