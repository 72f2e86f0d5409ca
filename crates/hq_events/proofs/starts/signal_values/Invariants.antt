use Rattle.std.proofs.Common.{◌≡◌, Some, length, slice_get}
use Rattle.hq_signals.specs.Table.{starts}
use Rattle.hq_events.specs.Packets.{AllAre}
use Rattle.hq_events.proofs.starts.signal_values.Given as goal

abbrev pub invariant-loop-signal : goal.invariant-loop-signal
invariant-loop-signal l = record {
  are : AllAre (λ s value. slice_get (starts l.job.signals) s ≡ Some value) l.values.items;
  count : length l.values.items ≡ l.signal;
}
