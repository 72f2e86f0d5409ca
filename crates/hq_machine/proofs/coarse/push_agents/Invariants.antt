use Rattle.hq_machine.specs.Pushes.{Swept}
use Rattle.hq_machine.specs.Pushes.Holders.{Agents}
use Rattle.hq_machine.proofs.coarse.push_agents.Given as goal

abbrev pub invariant-loop-agent : goal.invariant-loop-agent
invariant-loop-agent l = Swept Agents l.fn.copies 0 l.agent l.copies
