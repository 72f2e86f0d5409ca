-- What `show` writes.
use Rattle.std.specs.Prelude.{ℕ, ◌+◌, List, [], ◌∷◌, ◌++◌, length, codes, slice_get, Option, Some, None}
use Rattle.std.specs.Fmt.{decimal}
use Rattle.hq_job.specs.Value.{JobValue}
use Rattle.hq_tables.specs.declared.rows.Placed.{Placed}
use Rattle.hq_tables.specs.declared.rows.Queue.{Queue}
use Rattle.hq_report.specs.Shown.{packet_text}
use Rattle.hq_status.specs.declared.status.Status.{Status}
use Rattle.hq_status.specs.declared.status.Status.TheVariants.{Done}
use Rattle.hq_status.specs.Reports.{with_feed}

-- the name of a queue by its number
abbrev pub name_of : Option Queue → List ℕ
name_of None = []
name_of (Some queue) = queue.name

-- a packet's line
abbrev pub packet_line : List Queue → ℕ → Placed → List ℕ
packet_line queues number p = with_feed (packet_text number (name_of (slice_get queues p.queue)) p)

-- the lines of packets, the first of which has this number
abbrev pub packets_text : List Queue → ℕ → List Placed → List ℕ
packets_text queues number [] = []
packets_text queues number (p ∷ ps) = packet_line queues number p ++ packets_text queues (number + 1) ps

-- the packets' lines, and how many there are
abbrev pub show_text : JobValue → List ℕ
show_text job = packets_text job.queues 0 job.packets ++ with_feed (codes "packets " ++ decimal (length job.packets))

-- What `show` writes of a job.
pub data ShowReport (job : JobValue) : List ℕ → Status → Type 0 where
  shows : ShowReport job (show_text job) Done
