-- A job as a value: what its lines declare, each table in file order.
use Rattle.std.specs.Prelude.{ℕ, Bool, List}
use Rattle.hq_signals.specs.Table.{OpenSignal}
use Rattle.hq_tables.specs.Blocks.{Name, Bytes}
use Rattle.hq_tables.specs.declared.rows.Kernel.{Kernel}
use Rattle.hq_tables.specs.declared.rows.Queue.{Queue}
use Rattle.hq_tables.specs.declared.rows.Placed.{Placed}

-- all that a job's lines declare, with its packets by number
pub record JobValue : Type 0 where
  -- whether queues are rings: whether the first line is `hsaq 2`
  pub rings : Bool
  pub agents : List Name
  pub buffers : List Bytes
  pub arguments : List Bytes
  -- each signal's name; and its handle, its start, its decrementers, and whether a barrier packet waits on it
  pub signal_names : List Name
  pub signals : List OpenSignal
  pub kernels : List Kernel
  pub queues : List Queue
  -- by number: the queues in file order, the packets of each in its order
  pub packets : List Placed
  -- the numbers of the packets in the order of their lines, which is that of their submission
  pub submissions : List ℕ
