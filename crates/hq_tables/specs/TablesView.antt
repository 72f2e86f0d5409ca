-- What the fields of the tables mean.
use Rattle.hq_tables.specs.declared.tables.Tables as rust
use Rattle.hq_tables.specs.Tables.{Tables}

-- the tables as a value, without where their rows lie in memory
abbrev pub tables_of : rust.Tables → Tables
tables_of t =
    record {
      rings = t.rings;
      agents = t.agents.keys;
      buffers = t.buffers;
      arguments = t.arguments;
      signal_names = t.signal_names.keys;
      signals = t.signals;
      kernels = t.kernels.items;
      queues = t.queues.items;
      current = t.current;
      placed = t.placed.items;
    }
