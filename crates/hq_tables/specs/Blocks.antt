-- Names, and blocks as values, without where their bytes lie in memory.
use Rattle.std.specs.Prelude.{ℕ, List, map}
use Rattle.hq_tables.specs.declared.rows.Block.{Block}

-- a name is the list of its characters
abbrev pub Name : Type 0
Name = List ℕ

-- a named run of bytes from an address on: a buffer, or a kernarg block
pub record Bytes : Type 0 where
  pub name : Name
  pub at : ℕ
  pub bytes : List ℕ

-- the block's name, its address, and its bytes
abbrev pub bytes_of : Block → Bytes
bytes_of b = record { name = b.name; at = b.at; bytes = b.bytes.items }

-- these blocks as such values, in their order
abbrev pub blocks_of : List Block → List Bytes
blocks_of blocks = map bytes_of blocks
