use Rattle.std.proofs.Common.{arith}
use Rattle.hq_graph.proofs.Betweens.{left_more, left_all}
use Rattle.hq_graph.proofs.rows.leave_last.Goals as goal

pub each-preserved : goal.each-preserved
each-preserved c =
    let next = c.next_in-m-in-each.ensures in
    record {
      upto = omega (arith, next.below, c.len-in-each-2.ensures);
      there = λ low. next.there (omega (arith, low, c.len-in-each-2.ensures));
      left = left_more c.args.before.now c.args.row.now c.each.row c.ahead.result.now c.take_out.new.row c.each.m c.next_in-m-in-each.result c.each.invariant.left
          (c.each.invariant.there (omega (arith, c.each-test.true, c.len-in-each.ensures))) c.ahead.ensures.has c.take_out.ensures c.take_out.auto.row next.none;
    }

pub returns : goal.returns
returns c = left_all c.args.before.now c.args.row.now c.each.row c.each.m c.each.invariant.left (omega (arith, c.each-test.false, c.len-in-each.ensures))
