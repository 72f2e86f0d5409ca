use Rattle.std.proofs.Common.{◌≡◌, ◌∙◌, ◌==◌, sym, ap, ℕ, [], inl, inr, Some, Option}
use Rattle.std.specs.Prelude.{find, option_copied, unwrap_or}
use Rattle.std.specs.Option.{option_map}
use Rattle.hq_footprint.specs.declared.task.Code.TheVariants as code
use Rattle.hq_tables.specs.declared.rows.Kernel.{Kernel}
use Rattle.hq_tables.specs.Blocks.{Bytes, bytes_of}
use Rattle.hq_tables.specs.TablesView.{tables_of}
use Rattle.hq_tables.specs.Tables.{kernel_of, code_at, arguments_at}
use Rattle.hq_tables.proofs.Calls.{calls_kernel}
use Rattle.hq_tables.proofs.RowLaws.{found_some}
use Rattle.hq_tables.proofs.tables.Tables.kernel_work.Goals as goal

pub unwrap-block-requires : goal.unwrap-block-requires
unwrap-block-requires c =
    found_some (λ b. bytes_of b.now) c.at.result _ c.at.ensures (λ none. c.requires.1.0 (inl (inr none)))

pub returns : goal.returns
returns c =
    let object : ℕ = c.args.kernel.now.object in
    let address : ℕ = c.args.kernel.now.kernarg in
    let kernel : kernel_of (tables_of c.args.self.now) object ≡ Some c.unwrap.result.now =
    ap (find (λ k. k.object == object)) (sym c.deref.ensures.value) ∙ sym c.kernel_at.ensures ∙ ap option_copied c.unwrap.ensures in
    let code : c.unwrap.result.now.code ≡ code_at (tables_of c.args.self.now) object = ap (λ (o : Option Kernel). unwrap_or (option_map (λ k. k.code) o) code.Fill) (sym kernel) in
    let bytes : c.unwrap-block.result.now.bytes.items ≡ arguments_at (tables_of c.args.self.now) address =
    ap (λ o. unwrap_or (option_map (λ (b : Bytes). b.bytes) o) []) (ap (option_map (λ b. bytes_of b.now)) (sym c.unwrap-block.ensures) ∙ c.at.ensures) in
    calls_kernel c.of_kernel.result (tables_of c.args.self.now) c.args.kernel.now _ _ _ code c.items_of.ensures (c.deref-2.ensures.value ∙ bytes) c.of_kernel.ensures.found c.of_kernel.ensures.ok c.of_kernel.ensures.short c.of_kernel.ensures.overflow
