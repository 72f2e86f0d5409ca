use Rattle.std.proofs.Common.{inl, inr, subst, sym, IsTrue}
use Rattle.hq_bits.specs.Bits.{has}
use Rattle.hq_rows.specs.Matrix.{row}
use Rattle.hq_rows.specs.Uniting.{is_fresh}
use Rattle.hq_rows.proofs.Gathered.{through_fresh}
use Rattle.hq_rows.proofs.reaching.is_whole.Goals as goal

pub returns : goal.returns
returns c = λ t p through.
    let known = c.args.known.now in
    let rows = known.rows.now in
    elim ((through_fresh known.earlier.now rows known.renewed.now p c.args.r c.requires.stepped).1 through) [
      | inl marked ↦ marked
      | inr x ↦ subst (λ set. IsTrue (has set p)) c.row_of-row.ensures (c.covers_fresh.ensures t x.0 p x.1
          (subst (λ set. IsTrue (is_fresh set c.row_of.result.now known.renewed.now x.0)) (sym c.row_of-row.ensures)
          (subst (λ old. IsTrue (is_fresh (row rows c.args.r) old known.renewed.now x.0)) (sym c.row_of.ensures) x.2)))
    ]
