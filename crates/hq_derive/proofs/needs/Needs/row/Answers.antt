use Rattle.hq_bits.specs.Bits.{has}
use Rattle.hq_derive.proofs.Noting.{needed_in, never_both}
use Rattle.hq_derive.proofs.needs.Needs.row.Goals as goal

pub returns-then-is_bare-clause-has : goal.returns-then-is_bare-clause-has
returns-then-is_bare-clause-has c = λ low room r h.
    absurd (never_both (has c.column_of-row.result.now r) (needed_in c.args.self.now c.args.p r c.deref.result.now c.column_of-row.result.now c.deref.ensures.value c.column_of-row.ensures.column h) (c.is_bare.ensures c.if-is_bare.true r))

pub returns-else-is_bare-clause-has : goal.returns-else-is_bare-clause-has
returns-else-is_bare-clause-has c = λ low room r h.
    needed_in c.args.self.now c.args.p r c.deref.result.now c.column_of-row.result.now c.deref.ensures.value c.column_of-row.ensures.column h
