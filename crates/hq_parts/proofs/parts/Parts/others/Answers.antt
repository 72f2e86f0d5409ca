use Rattle.std.proofs.Common.{arith, subst}
use Rattle.hq_job.specs.Plan.{plan}
use Rattle.hq_parts.proofs.Parting.{none_left, none_of_others, read_at, takes_more}
use Rattle.hq_parts.specs.Parts.{LeftOf, TakesRows}
use Rattle.hq_parts.proofs.parts.Parts.others.Goals as goal

pub returns-else-count-lt-FEW : goal.returns-else-count-lt-FEW
returns-else-count-lt-FEW c =
    let touch = c.index-touch.result.now in
    let bits = c.take_rows-2.new.row in
    none_of_others (plan c.args.job.now) c.args.self.now bits c.args.a touch c.requires.parts (read_at c.args.self.now.packets.items c.args.a touch c.index-touch.ensures (omega (arith, c.requires.parts.tell.len, c.requires.a_is)))
    (takes_more c.args.self.now.tables.touched.items c.take_rows.new.row bits touch.written (subst (λ table. TakesRows table touch.written c.take_rows.new.row) c.deref.ensures.value c.take_rows.ensures.taken) c.take_rows-2.ensures.kept)
    (subst (λ table. TakesRows table touch.touched bits) c.deref-2.ensures.value c.take_rows-2.ensures.taken)

pub returns-then-count-lt-FEW : goal.returns-then-count-lt-FEW
returns-then-count-lt-FEW c =
    let touch = c.index-touch.result.now in
    let bits = c.take_rows-2.new.row in
    none_left (plan c.args.job.now) c.args.self.now bits c.drop_apart.new.row c.args.a touch c.requires.parts (subst (λ fine. LeftOf bits fine c.args.a c.drop_apart.new.row) c.deref-then-count-lt-FEW.ensures.value c.drop_apart.ensures)
    (read_at c.args.self.now.packets.items c.args.a touch c.index-touch.ensures (omega (arith, c.requires.parts.tell.len, c.requires.a_is))) c.requires.a_is
    (takes_more c.args.self.now.tables.touched.items c.take_rows.new.row bits touch.written (subst (λ table. TakesRows table touch.written c.take_rows.new.row) c.deref.ensures.value c.take_rows.ensures.taken) c.take_rows-2.ensures.kept)
    (subst (λ table. TakesRows table touch.touched bits) c.deref-2.ensures.value c.take_rows-2.ensures.taken)
