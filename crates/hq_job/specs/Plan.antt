-- The job as numbers: what a job means to everything above the texts.
use Rattle.std.specs.Prelude.{map, length}
use Rattle.std.specs.List.{flat_map}
use Rattle.hq_packet.specs.Parts.{head_of}
use Rattle.hq_footprint.specs.Bytes.{read_entries, written_bytes}
use Rattle.hq_tables.specs.declared.rows.Placed.{Placed}
use Rattle.hq_job.specs.Value.{JobValue}
use Rattle.hq_tables.specs.Kinds.{kind_of}
use Rattle.hq_signals.specs.Table.{starts}
use Rattle.hq_model.specs.Job as model

-- what the model sees of a packet: no handles and addresses, but its signals and its bytes by number
abbrev pub planned : Placed → model.Packet
planned p =
    record {
      queue = p.queue;
      kind = kind_of p.packet;
      bit = (head_of p.packet).barrier;
      acquire = (head_of p.packet).acquire;
      release = (head_of p.packet).release;
      reads = read_entries p.bytes;
      writes = written_bytes p.bytes;
      task = p.work.task;
      deps = p.slots;
      done = p.done;
    }

-- what the model sees of a job: no names, addresses or handles, and as memory the buffers laid end to end
abbrev pub plan : JobValue → model.Job
plan job =
    record {
      agents = length job.agents;
      memory = flat_map (λ b. b.bytes) job.buffers;
      starts = starts job.signals;
      queues = map (λ q. q.agent) job.queues;
      sizes = map (λ q. q.size) job.queues;
      packets = map planned job.packets;
      rings = job.rings;
      submissions = job.submissions;
    }
