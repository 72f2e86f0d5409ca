use Rattle.std.proofs.Common.{sym, subst}
use Rattle.hq_job.specs.Plan.{plan}
use Rattle.hq_model.specs.Machine.Event.{PushAgent}
use Rattle.hq_machine.specs.Changes.{Moved, with_copies}
use Rattle.hq_machine.specs.Enabled.{Refused}
use Rattle.hq_machine.specs.View.{IsStateOf}
use Rattle.hq_machine.specs.contracts.state.State.{the_view}
use Rattle.hq_machine.proofs.CopyMoves.{moved_push_agent, refused_push_agent}
use Rattle.hq_machine.proofs.state.State.push_agent.Goals as goal
use Rattle.hq_machine.proofs.state.State.push_agent.Goals.{in-Ok, in-Err}

pub returns-clause-ok : goal.returns-clause-ok
returns-clause-ok c = elim c.match-push_agent.branch [
  | in-Ok w ↦
      let job = plan c.args.job.now in
      let v = the_view c.self.inside in
      let there = c.has_agent_byte.ensures.0 c.if-not-has_agent_byte.false in
      let moved : Moved job v (PushAgent c.args.agent c.args.byte) (with_copies v c.push_agent.new.self) = moved_push_agent job v c.args.agent c.args.byte c.push_agent.new.self c.valid.ensures.valid (subst (IsStateOf job) (sym c.self.view_is) c.requires) there.0 there.1 w.in-Ok.ensures.ok in
      rw w.result-is (subst (λ x. Moved job x (PushAgent c.args.agent c.args.byte) (with_copies v c.push_agent.new.self)) c.self.view_is moved)
  | in-Err w ↦ rw w.result-is tt
]

pub returns-clause-fault : goal.returns-clause-fault
returns-clause-fault c = elim c.match-push_agent.branch [
  | in-Ok w ↦ rw w.result-is tt
  | in-Err w ↦
      let job = plan c.args.job.now in
      let v = the_view c.self.inside in
      let there = c.has_agent_byte.ensures.0 c.if-not-has_agent_byte.false in
      let refused : Refused job v (PushAgent c.args.agent c.args.byte) w.step_fault.result = subst (Refused job v (PushAgent c.args.agent c.args.byte)) (sym w.step_fault.ensures) (refused_push_agent job v c.args.agent c.args.byte w.in-Err.fault there.0 there.1 w.in-Err.ensures.not_dirty w.in-Err.ensures.faults) in
      rw w.result-is (subst (λ x. Refused job x (PushAgent c.args.agent c.args.byte) w.step_fault.result) c.self.view_is refused)
]
