use Rattle.std.proofs.Common.{arith}
use Rattle.hq_tables.specs.declared.rows.Placed.{Placed}
use Rattle.hq_tables.proofs.Tail.{last_has}
use Rattle.hq_tables.proofs.packets.has_last.Goals as goal

pub returns-in-Some : goal.returns-in-Some
returns-in-Some c = last_has (λ (p : Placed). p.queue) c.args.placed.now c.index-placed-place.result c.args.queue c.args.count c.in-Some.place c.requires.rises c.requires.most c.requires.some (omega (arith, c.in-Some.ensures))
