use Rattle.std.proofs.Common.{refl, inl, inr}
use Rattle.hq_tables.specs.Tables.{work_of}
use Rattle.hq_tables.specs.TablesView.{tables_of}
use Rattle.hq_tables.proofs.Calls.{outside_here}
use Rattle.hq_tables.proofs.Found.{refuted}
use Rattle.hq_tables.proofs.tables.Tables.check_work.Goals as goal

pub returns-then-is_outside-clause-checks : goal.returns-then-is_outside-clause-checks
returns-then-is_outside-clause-checks c =
    let out = outside_here c.is_outside.result _ _ c.in-Ok.work (work_of (tables_of c.args.self.now) c.args.packet.now) c.ranges-2.ensures c.in-Ok.ensures.0 c.in-Ok.ensures.1.1.0 c.is_outside.ensures in
    inr (inr (c.in-Ok.ensures.1.0, inr (c.in-Ok.ensures.1.1.0, inl (out.0 c.if-is_outside.true, refl))))

pub returns-clause-checks : goal.returns-clause-checks
returns-clause-checks c =
    let out = outside_here c.is_outside.result _ _ c.in-Ok.work (work_of (tables_of c.args.self.now) c.args.packet.now) c.ranges-2.ensures c.in-Ok.ensures.0 c.in-Ok.ensures.1.1.0 c.is_outside.ensures in
    (c.in-Ok.ensures.1.0, (c.in-Ok.ensures.1.1.0, (refuted out c.if-is_outside.false, tt)))
