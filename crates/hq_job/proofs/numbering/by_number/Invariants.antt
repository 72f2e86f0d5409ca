use Rattle.std.proofs.Common.{◌≡◌}
use Rattle.hq_job.specs.Numbering.{by_number}
use Rattle.hq_job.proofs.numbering.by_number.Given as goal

abbrev pub invariant-loop-queue : goal.invariant-loop-queue
invariant-loop-queue l = l.packets.items ≡ by_number l.queue l.placed.items
