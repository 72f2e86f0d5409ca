use Rattle.std.proofs.Common.{sym, subst}
use Rattle.hq_events.proofs.Wholes.{next_row}
use Rattle.hq_events.specs.Rows.{NextRow}
use Rattle.hq_events.proofs.rows.Reads.take.Goals as goal

pub returns-clause-ok : goal.returns-clause-ok
returns-clause-ok c = subst (NextRow c.args.self.now c.args.total c.args.entry c.args.byte) (sym c.set.ensures) (next_row c.args.self.now c.open.new.self c.args.total c.args.entry c.args.byte c.in_ok-open.ensures.room c.in_ok-open.ensures.same c.requires.there)
