use Rattle.std.proofs.Common.{sym, subst}
use Rattle.hq_job.specs.Plan.{plan}
use Rattle.hq_model.specs.Machine.Event.{DropAgent}
use Rattle.hq_machine.specs.Changes.{Moved, with_copies}
use Rattle.hq_machine.specs.View.{IsStateOf}
use Rattle.hq_machine.specs.contracts.state.State.{the_view}
use Rattle.hq_machine.proofs.CopyMoves.{moved_drop_agent}
use Rattle.hq_machine.proofs.state.State.drop_agent.Goals as goal
use Rattle.hq_machine.proofs.state.State.drop_agent.Goals.{in-Ok, in-Err}

pub returns-clause-ok : goal.returns-clause-ok
returns-clause-ok c = elim c.match-drop_agent.branch [
  | in-Ok w ↦
      let job = plan c.args.job.now in
      let v = the_view c.self.inside in
      let there = c.has_agent_byte.ensures.0 c.if-not-has_agent_byte.false in
      let moved : Moved job v (DropAgent c.args.agent c.args.byte) (with_copies v c.drop_agent.new.self) = moved_drop_agent job v c.args.agent c.args.byte c.drop_agent.new.self c.valid.ensures.valid (subst (IsStateOf job) (sym c.self.view_is) c.requires) there.0 there.1 w.in-Ok.ensures.ok in
      rw w.result-is (subst (λ x. Moved job x (DropAgent c.args.agent c.args.byte) (with_copies v c.drop_agent.new.self)) c.self.view_is moved)
  | in-Err w ↦ rw w.result-is tt
]
