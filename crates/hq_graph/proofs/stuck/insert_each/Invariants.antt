use Rattle.std.proofs.Common.{take}
use Rattle.hq_schedule.specs.Placing.{HasCome}
use Rattle.hq_graph.proofs.stuck.insert_each.Given as goal

abbrev pub invariant-loop-number : goal.invariant-loop-number
invariant-loop-number l = HasCome l.row (take l.number-index l.list)
