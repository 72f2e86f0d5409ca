use Rattle.std.proofs.Common.{arith}
use Rattle.hq_parts.proofs.Parting.{kept_on, takes_next, takes_all}
use Rattle.hq_parts.proofs.parts.take_rows.Goals as goal

pub each-preserved : goal.each-preserved
each-preserved c =
    record {
      len = omega (arith, c.unite.auto.row, c.each.invariant.len);
      kept = kept_on c.args.row.now c.each.row c.unite.new.row c.column_of.result.now c.unite.ensures.exact c.each.invariant.kept;
      taken = takes_next c.args.table.now c.each.row c.unite.new.row c.column_of.result.now c.args.parts c.each.rest c.without-rest.result c.lowest-part.result c.column_of.ensures.column c.unite.ensures.exact c.without-rest.ensures.same c.each.invariant.taken;
    }

pub returns-clause-taken : goal.returns-clause-taken
returns-clause-taken c = takes_all c.args.table.now c.each.row c.args.parts c.each.rest (omega (arith, c.ranges.parts.fits)) (omega (arith, c.each-test.false)) c.each.invariant.taken
