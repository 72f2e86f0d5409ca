use Rattle.std.proofs.Common.{sym, subst, take}
use Rattle.std.proofs.lemmas.List.{take_more}
use Rattle.hq_schedule.specs.Placing.{HasCome}
use Rattle.hq_schedule.proofs.Settling.{come_push}
use Rattle.hq_graph.proofs.stuck.insert_each.Goals as goal

pub loop-number-preserved : goal.loop-number-preserved
loop-number-preserved c =
    let i = c.loop-number.number-index in
    let list = c.args.list.now in
    subst (HasCome c.insert.new.row) (sym (take_more list i 0 c.loop-number-test.true)) (come_push c.loop-number.row c.insert.new.row (take i list) _ c.loop-number.invariant c.insert.ensures)
