use Rattle.std.proofs.Common.{◌≡◌, take}
use Rattle.hq_tables.specs.Blocks.{blocks_of}
use Rattle.hq_tables.proofs.rows.copied.Given as goal

abbrev pub invariant-loop-block : goal.invariant-loop-block
invariant-loop-block l = blocks_of l.copies.items ≡ blocks_of (take l.block-index l.blocks)
