-- What the tables that stand at the end of a text mean: their job.
use Rattle.std.specs.Prelude.{length}
use Rattle.hq_job.specs.Value.{JobValue}
use Rattle.hq_job.specs.Numbering.{by_number, submissions_of}
use Rattle.hq_tables.specs.Tables.{Tables}

-- the job of the tables that stand at the end
abbrev pub value_of : Tables → JobValue
value_of ts =
    record {
      rings = ts.rings;
      agents = ts.agents;
      buffers = ts.buffers;
      arguments = ts.arguments;
      signal_names = ts.signal_names;
      signals = ts.signals;
      kernels = ts.kernels;
      queues = ts.queues;
      packets = by_number (length ts.queues) ts.placed;
      submissions = submissions_of ts.placed;
    }
