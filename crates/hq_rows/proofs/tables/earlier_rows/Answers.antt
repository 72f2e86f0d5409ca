use Rattle.std.proofs.Common.{sym, ◌∙◌, arith}
use Rattle.hq_rows.proofs.Gathered.{earlier_is}
use Rattle.hq_rows.proofs.tables.earlier_rows.Goals as goal

pub returns : goal.returns
returns c = c.rows_of.ensures ∙ sym (earlier_is c.args.rounds.now (omega arith))
