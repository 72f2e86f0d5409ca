use Rattle.std.proofs.Common.{List, subst}
use Rattle.std.specs.Prelude.{Contains, IsTrue, ◌↔◌}
use Rattle.hq_tables.specs.declared.rows.Block.{Block}
use Rattle.hq_tables.specs.Blocks.{blocks_of}
use Rattle.hq_tables.specs.Tables.{names_of}
use Rattle.hq_tables.proofs.buffers.Buffers.has_name.Goals as goal

pub returns : goal.returns
returns c =
    rw (← c.self.view_is) (subst (λ (bs : List Block). IsTrue c.has_block.result ↔ Contains (names_of (blocks_of bs)) c.args.name) c.deref.ensures.value c.has_block.ensures)
