use Rattle.std.proofs.Common.{refl, inl, inr, arith}
use Rattle.hq_tables.proofs.Found.{refuted}
use Rattle.hq_tables.proofs.tables.Tables.add_arguments.Goals as goal

pub returns-then-has_address : goal.returns-then-has_address
returns-then-has_address c =
    (refl, inr (inr (λ full. omega arith, inr (refuted c.has_name.ensures c.if-has_name.false, inl (c.has_address.ensures.0 c.if-has_address.true, refl)))))
