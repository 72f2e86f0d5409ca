-- How the fields of a `SignalTable` show its signals.
use Rattle.std.specs.Prelude.{ℕ, List, map}
use Rattle.hq_signals.specs.Table.{OpenSignal}
use Rattle.hq_signals.specs.declared.table.Entry.{Entry}

-- the signal of an entry, with the handle that it stands under
abbrev pub signal_of : ℕ × Entry → OpenSignal
signal_of e = record { handle = e.0; start = e.1.start; decrementers = e.1.decrementers; waited = e.1.waited }

-- the signals of all entries, in their order
abbrev pub signals_of : List (ℕ × Entry) → List OpenSignal
signals_of es = map signal_of es
