use Rattle.std.proofs.Common.{length, sym, ◌∙◌, ap, subst, IsTrue}
use Rattle.hq_bits.specs.Bits.{has}
use Rattle.hq_rows.specs.Matrix.{Marks}
use Rattle.hq_rows.proofs.Rows.{row_is, width_is}
use Rattle.hq_bits.proofs.Words.{met}
use Rattle.hq_rows.proofs.joining.meet_one.Goals as goal

pub meet-requires : goal.meet-requires
meet-requires c = width_is c.args.completing.now c.args.signal (length c.args.shared.now) c.index-completing-signal.result c.requires.low c.index-completing-signal.is (c.requires.width c.args.signal c.requires.low) ∙ sym (ap length c.deref.ensures.value)

pub returns : goal.returns
returns c = λ p.
    let set = c.deref.ensures.value ∙ sym (row_is c.args.completing.now c.args.signal c.index-completing-signal.result c.requires.low c.index-completing-signal.is) in
    met (has c.args.shared.now p) (has c.deref.result.now p) (has c.meet.new.row p) (Marks c.args.completing.now p c.args.signal) (c.meet.ensures p)
    (λ h. subst (λ r. IsTrue (has r p)) set h, λ h. subst (λ r. IsTrue (has r p)) (sym set) h)
