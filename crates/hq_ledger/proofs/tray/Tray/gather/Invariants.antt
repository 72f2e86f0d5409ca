use Rattle.std.proofs.Common.{◌≡◌, map, take}
use Rattle.hq_ledger.specs.Trays.{Learned, homes_from, part_of}
use Rattle.hq_ledger.proofs.tray.Tray.gather.Given as goal

abbrev pub invariant-loop-number : goal.invariant-loop-number
invariant-loop-number l = record {
  packets : l.self.packets ≡ l.initial.self.packets;
  learned : Learned l.initial.self.known l.self.known;
  homes : map part_of l.homes.items ≡ homes_from 0 (take l.number l.self.known);
}
