use Rattle.std.proofs.Common.{◌≡◌, ◌<◌, ◌≤◌, length, get_or, sym, subst, arith}
use Rattle.hq_job.specs.Plan.{plan}
use Rattle.hq_model.specs.Machine as machine
use Rattle.hq_model.specs.Machine.{first_phase}
use Rattle.hq_machine.proofs.NextPackets.{first_waits, none_waits}
use Rattle.hq_machine.specs.Enabled.{IsFirstWaiting}
use Rattle.hq_machine.specs.View.{state_of}
use Rattle.hq_machine.proofs.state.State.first_waiting.Goals as goal

pub returns-then-is_in : goal.returns-then-is_in
returns-then-is_in c =
    let job = plan c.args.job.now in
    let state = state_of job c.args.self.now in
    let k = c.loop-number.number-index in
    let e = c.submissions-number-items.ensures in
    subst (λ xs. IsFirstWaiting job state (get_or xs k 0)) (sym e)
    (first_waits job state k c.valid.ensures.valid (subst (λ xs. k < length xs) e c.loop-number-test.true) (subst (λ xs. state.phase (get_or xs k 0) ≡ machine.Phase.Waiting) e ((c.is_in.ensures (first_phase job)).0 c.if-is_in.true)) c.loop-number.invariant)

pub returns : goal.returns
returns c =
    let job = plan c.args.job.now in
    let state = state_of job c.args.self.now in
    let e = c.submissions-number-items.ensures in
    let l = subst (λ xs. length xs ≤ c.loop-number.number-index) e c.loop-number-test.false in
    none_waits job state c.valid.ensures.valid (λ i h. c.loop-number.invariant i (omega arith))
