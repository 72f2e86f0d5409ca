use Rattle.std.proofs.Common.{refl, inl, inr, arith}
use Rattle.hq_tables.proofs.Found.{refuted}
use Rattle.hq_tables.proofs.tables.Tables.add_kernel.Goals as goal

pub returns-then-has_object : goal.returns-then-has_object
returns-then-has_object c = (refl, inr (inr (λ full. omega arith, inr (refuted (rw c.deref.ensures.value at c.has_kernel.ensures) c.if-has_kernel.false, inl ((rw c.deref-2.ensures.value at c.has_object.ensures).0 c.if-has_object.true, refl)))))
