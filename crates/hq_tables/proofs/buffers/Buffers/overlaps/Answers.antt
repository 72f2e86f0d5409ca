use Rattle.std.proofs.Common.{◌≡◌, ◌∙◌, List, subst}
use Rattle.std.specs.Prelude.{map, Any, IsTrue, ◌↔◌}
use Rattle.hq_footprint.specs.Bytes.{bytes_of as range_bytes, Share}
use Rattle.hq_footprint.specs.declared.footprint.Range.{Range}
use Rattle.hq_tables.specs.Blocks.{blocks_of}
use Rattle.hq_tables.specs.Tables.{range_of}
use Rattle.hq_tables.proofs.Found.{any_in_map, any_of_rows}
use Rattle.hq_tables.proofs.buffers.Buffers.overlaps.Goals as goal

pub returns : goal.returns
returns c =
    let rows = blocks_of c.self.inside.rows.items in
    let P : Range → Type 0 = λ r. Share (range_bytes r) (range_bytes c.args.range) in
    let ranges : c.deref.result.now ≡ map range_of rows = c.deref.ensures.value ∙ c.self.invariant in
    let found : IsTrue c.overlaps_some.result ↔ Any P (map range_of rows) = subst (λ (rs : List Range). IsTrue c.overlaps_some.result ↔ Any P rs) ranges c.overlaps_some.ensures in
    rw (← c.self.view_is) (λ t. any_in_map range_of P rows (found.0 t), λ h. found.1 (any_of_rows range_of P rows h))
