use Rattle.std.proofs.Common.{◌≡◌, take}
use Rattle.std.specs.List.{flat_map}
use Rattle.hq_tables.specs.Blocks.{blocks_of}
use Rattle.hq_job.proofs.memory.memory_of.Given as goal

abbrev pub invariant-loop-buffer : goal.invariant-loop-buffer
invariant-loop-buffer l = l.memory.items ≡ flat_map (λ b. b.bytes) (blocks_of (take l.buffer-index l.buffers))
