-- How many ranges a task has.
use Rattle.std.specs.Prelude.{ℕ}
use Rattle.hq_footprint.specs.declared.task.Task.{Task}
use Rattle.hq_footprint.specs.declared.task.Task.TheVariants as task

-- how many ranges a task reads
abbrev pub reads_of : Task → ℕ
reads_of (task.Fill byte) = 0
reads_of task.Copy = 1
reads_of task.Rev = 1
reads_of task.Xor = 2
reads_of task.Add = 2
reads_of task.Sum = 1
reads_of (task.Store64 word) = 0
reads_of (task.Count byte) = 1
reads_of task.Nop = 0

-- and how many it writes: one, but nop none
abbrev pub writes_of : Task → ℕ
writes_of task.Nop = 0
writes_of other = 1
