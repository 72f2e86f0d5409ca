-- What a `Job`'s fields mean, and what is known of every job that was read.
use Rattle.std.specs.Prelude.{◌<◌, ◌≤◌, length, sum_by, All, IfSome}
use Rattle.hq_job.specs.declared.job.Job.TheInside.{Inside}
use Rattle.hq_tables.specs.TablesView.{tables_of}
use Rattle.hq_job.specs.Value.{JobValue}
use Rattle.hq_footprint.specs.Bytes.{read_entries, written_bytes}
use Rattle.hq_footprint.specs.Tasks.{Suits}
use Rattle.hq_model.specs.declared.limits.TheConstants.{BYTES, PACKETS}
use Rattle.hq_tables.specs.declared.limits.TheConstants.{AGENTS, BLOCKS, BUFFERS, KERNELS, QUEUES, SIGNALS}
use Rattle.hq_tables.specs.declared.rows.Placed.{Placed}
use Rattle.hq_tables.specs.Tables.{total_of}
use Rattle.hq_job.specs.Plan.{plan}
use Rattle.hq_tables.specs.Ranges.{RangesSuit}
use Rattle.hq_model.specs.Theorems.{Valid}

-- the job as a value: what its tables have, with its packets by number and the order of their submission
abbrev pub value_of : Inside → JobValue
value_of j =
    let ts = tables_of j.tables in
    record {
      rings = ts.rings;
      agents = ts.agents;
      buffers = ts.buffers;
      arguments = ts.arguments;
      signal_names = ts.signal_names;
      signals = ts.signals;
      kernels = ts.kernels;
      queues = ts.queues;
      packets = j.packets.items;
      submissions = j.submissions.items;
    }

-- the limits of every job
pub record WithinLimits (job : JobValue) : Type 0 where
  pub agents : length job.agents ≤ AGENTS
  pub queues : length job.queues ≤ QUEUES
  pub packets : length job.packets ≤ PACKETS
  pub buffers : length job.buffers ≤ BUFFERS
  pub bytes : sum_by (λ b. length b.bytes) job.buffers ≤ BYTES
  pub signals : length job.signals ≤ SIGNALS
  pub kernels : length job.kernels ≤ KERNELS
  pub arguments : length job.arguments ≤ BLOCKS

-- what is known of each packet of a job that was read, beside what the plan's laws ask: what it reads lies in
-- memory, it reads and writes as many bytes as its task asks for, in all and range by range, and its signals are
-- there
pub record PacketIsRead (job : JobValue) (p : Placed) : Type 0 where
  pub reads : All (λ b. b < total_of job.buffers) (read_entries p.bytes)
  pub suits : Suits p.work.task (length (read_entries p.bytes)) (length (written_bytes p.bytes))
  pub ranges : RangesSuit p
  pub slots : All (λ slot. IfSome slot (λ k. k < length job.signals)) p.slots
  pub done : IfSome p.done (λ k. k < length job.signals)

-- what is known of every job that was read
pub record IsRead (job : JobValue) : Type 0 where
  pub valid : Valid (plan job)
  pub limits : WithinLimits job
  pub packets : All (PacketIsRead job) job.packets
