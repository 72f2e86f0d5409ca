use Rattle.std.proofs.Common.{sym, ◌∙◌, ap, length}
use Rattle.hq_rows.proofs.gathering.unite_row.Goals as goal

pub unite-requires : goal.unite-requires
unite-requires c = sym (c.requires.width c.args.m c.if-m-rows.true) ∙ sym (ap length c.row_of.ensures)
