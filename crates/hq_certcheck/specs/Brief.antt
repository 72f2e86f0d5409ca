-- Packets that read and write no more bytes than memory may have.
use Rattle.std.specs.Prelude.{◌≤◌, All}
use Rattle.hq_model.specs.declared.limits.TheConstants.{BYTES}
use Rattle.hq_tables.specs.declared.rows.Placed.{Placed}

-- no range of the packet has more bytes than memory may have
pub record IsShort (p : Placed) : Type 0 where
  pub reads : All (λ r. r.len ≤ BYTES) p.bytes.reads
  pub write : p.bytes.write.len ≤ BYTES
