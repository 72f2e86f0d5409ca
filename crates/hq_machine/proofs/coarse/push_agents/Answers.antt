use Rattle.std.proofs.Common.{arith}
use Rattle.hq_machine.proofs.Released.{agent_after}
use Rattle.hq_machine.proofs.coarse.push_agents.Goals as goal

pub loop-agent-preserved : goal.loop-agent-preserved
loop-agent-preserved c = agent_after c.args.copies.now c.loop-agent.copies c.loop-agent.agent c.release.new.self c.requires.within (omega (arith, c.requires.agents, c.loop-agent-test.true)) c.loop-agent.invariant c.in_ok-release.ensures.ok
