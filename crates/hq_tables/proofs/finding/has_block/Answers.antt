use Rattle.std.proofs.Common.{sym, subst, List, ℕ}
use Rattle.std.specs.Prelude.{Contains, IsTrue, ◌↔◌}
use Rattle.hq_tables.specs.Blocks.{bytes_of}
use Rattle.hq_tables.proofs.Found.{row_named, map_twice}
use Rattle.hq_tables.proofs.finding.has_block.Goals as goal

pub returns : goal.returns
returns c =
    let P : List (List ℕ) → Type 0 = λ names. IsTrue c.any_named.result ↔ Contains names c.args.name in
    subst P (sym (map_twice bytes_of (λ b. b.name) c.args.blocks.now)) (row_named (λ b. b.name) c.args.blocks.now c.args.name c.any_named.result c.any_named.ensures)
