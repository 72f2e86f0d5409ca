use Rattle.std.proofs.Common.{rules, ◌≡◌, refl, ap, ◌∙◌, inl, inr, arith, length}
use Rattle.hq_footprint.specs.Table.{range}
use Rattle.hq_tables.proofs.Found.{refuted}
use Rattle.hq_tables.proofs.tables.Tables.add_buffer.Goals as goal

pub returns-then-overlaps : goal.returns-then-overlaps
returns-then-overlaps c =
    let len : c.len-3.result ≡ length c.args.bytes.items = search rules in
    let is : c.new.result ≡ range c.args.at (length c.args.bytes.items) = c.new.ensures ∙ ap (range c.args.at) len in
    let shared = rw is at (c.overlaps.ensures.0 c.if-overlaps.true) in
    (refl, inr (inr (λ full. omega arith, inr (λ much. omega (arith, c.requires.within.bytes), inr (refuted c.has_name.ensures c.if-has_name.false, inl (shared, refl))))))
