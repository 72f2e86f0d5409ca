use Rattle.std.proofs.Common.{◌≡◌, ◌+◌, ◌≤◌, drop}
use Rattle.std.specs.Option.{option_map}
use Rattle.hq_tables.specs.Blocks.{blocks_of}
use Rattle.hq_tables.specs.Tables.{byte_number, total_of}
use Rattle.hq_tables.proofs.addresses.byte_number.Given as goal

abbrev pub invariant-loop-buffer : goal.invariant-loop-buffer
invariant-loop-buffer l = record {
  total : l.before + total_of (blocks_of (drop l.buffer-index l.buffers)) ≤ 65536;
  place : option_map (λ k. l.before + k) (byte_number (blocks_of (drop l.buffer-index l.buffers)) l.address) ≡ byte_number (blocks_of l.buffers) l.address;
}
