-- The pieces of a packet on their way through its body.
use Rattle.std.specs.Prelude.{◌≡◌, ℕ, ◌<◌, List, length}
use Rattle.hq_footprint.specs.declared.footprint.Work.{Work}
use Rattle.hq_footprint.specs.Counts.{reads_of, writes_of}
use Rattle.hq_footprint.specs.Tasks.{result_of}
use Rattle.hq_ledger.specs.Pieces.{Part}
use Rattle.hq_kernels.specs.Bodies.{pieces_of}
use Rattle.hq_hall.specs.View.{bytes_among, piece_at}

-- the bytes of the piece that a packet with this work writes
abbrev pub bytes_written : Work → List Part → List ℕ
bytes_written work pieces = (piece_at pieces (reads_of work.task)).bytes

-- There are as many pieces as the work has, and the one that it writes is as long as its range.
pub record AreFor (work : Work) (pieces : List Part) : Type 0 where
  pub count : length pieces ≡ pieces_of work.task
  pub room : 0 < writes_of work.task → length (bytes_written work pieces) ≡ work.foot.write.len

-- Where the piece that the work writes is as long as its range, it holds what the task makes of the bytes of those
-- that are read.
pub record IsWorked (work : Work) (pieces : List Part) : Type 0 where
  pub bytes : 0 < writes_of work.task → length (bytes_written work pieces) ≡ work.foot.write.len
      → bytes_written work pieces ≡ result_of work.task work.foot.write.len (bytes_among work.task pieces)
