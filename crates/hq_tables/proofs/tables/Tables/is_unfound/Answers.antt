use Rattle.std.proofs.Common.{◌≡◌, ◌∙◌, sym, ap, is_some, ◌==◌}
use Rattle.std.specs.Prelude.{find}
use Rattle.hq_tables.specs.Blocks.{bytes_of}
use Rattle.hq_tables.specs.TablesView.{tables_of}
use Rattle.hq_tables.specs.Tables.{kernel_of, block_of}
use Rattle.hq_tables.proofs.RowLaws.{same_some, either_left, either_right}
use Rattle.hq_tables.proofs.tables.Tables.is_unfound.Goals as goal

pub returns-then-is_none : goal.returns-then-is_none
returns-then-is_none c =
    let kernel : is_some c.kernel_at.result ≡ is_some (kernel_of (tables_of c.args.self.now) c.args.kernel.now.object) =
    same_some (λ k. k.now) c.kernel_at.result _ (c.kernel_at.ensures ∙ ap (find (λ k. k.object == c.args.kernel.now.object)) c.deref.ensures.value) in
    either_left (is_some (kernel_of (tables_of c.args.self.now) c.args.kernel.now.object)) c.is_none.result c.if-is_none.true (sym kernel ∙ c.is_none.ensures)

pub returns-else-is_none : goal.returns-else-is_none
returns-else-is_none c =
    let kernel : is_some c.kernel_at.result ≡ is_some (kernel_of (tables_of c.args.self.now) c.args.kernel.now.object) =
    same_some (λ k. k.now) c.kernel_at.result _ (c.kernel_at.ensures ∙ ap (find (λ k. k.object == c.args.kernel.now.object)) c.deref.ensures.value) in
    let block : is_some c.at.result ≡ is_some (block_of (tables_of c.args.self.now) c.args.kernel.now.kernarg) = same_some (λ b. bytes_of b.now) c.at.result _ c.at.ensures in
    either_right (is_some (kernel_of (tables_of c.args.self.now) c.args.kernel.now.object)) (is_some (block_of (tables_of c.args.self.now) c.args.kernel.now.kernarg)) c.is_none.result c.is_none-else-is_none.result c.if-is_none.false (sym kernel ∙ c.is_none.ensures) (sym block ∙ c.is_none-else-is_none.ensures)
