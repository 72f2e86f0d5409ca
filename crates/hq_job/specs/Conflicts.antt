-- How two packets of a job conflict.
use Rattle.std.specs.Prelude.{ℕ, ◌↔◌, IsTrue}
use Rattle.hq_footprint.specs.declared.conflicts.Kinds.{Kinds}
use Rattle.hq_model.specs.Job.{Job}
use Rattle.hq_model.specs.Fence.{Conflicts}
use Rattle.hq_model.specs.Fence.Conflict.{WriteRead, WriteWrite, ReadWrite}

-- each flag tells of its kind of conflict, the first packet first
pub record HasConflicts (job : Job) (first second : ℕ) (kinds : Kinds) : Type 0 where
  pub wr : IsTrue kinds.wr ↔ Conflicts job WriteRead first second
  pub ww : IsTrue kinds.ww ↔ Conflicts job WriteWrite first second
  pub rw : IsTrue kinds.rw ↔ Conflicts job ReadWrite first second
