use Rattle.std.proofs.Common.{arith}
use Rattle.hq_rows.proofs.Crossing.{between_found}
use Rattle.hq_rows.proofs.columns.between.Goals as goal

pub returns : goal.returns
returns c = between_found c.args.rows.now c.args.table.now c.column_of.result.now c.row_of.result.now c.args.p c.args.r c.first_common.result c.requires.turned c.column_of.ensures.column (omega (arith, c.column_of.ensures.len)) c.row_of.ensures c.requires.p c.requires.few c.first_common.ensures
