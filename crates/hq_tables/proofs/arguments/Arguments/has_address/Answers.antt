use Rattle.std.proofs.Common.{◌∙◌, ◌==◌, ap, ℕ, List}
use Rattle.std.specs.List.{list_any}
use Rattle.hq_tables.specs.Blocks.{blocks_of}
use Rattle.hq_tables.proofs.Found.{row_numbered}
use Rattle.hq_tables.proofs.arguments.Arguments.has_address.Goals as goal

pub returns : goal.returns
returns c =
    rw (← c.self.view_is) (row_numbered (λ b. b.at) (blocks_of c.self.inside.rows.items) c.args.at c.contains.result
    (c.contains.ensures ∙ ap (λ (ks : List ℕ). list_any (λ k. c.args.at == k) ks) c.self.invariant.1))
