use Rattle.std.proofs.Common.{◌≡◌, true, false}
use Rattle.hq_job.specs.Plan.{plan}
use Rattle.hq_machine.proofs.NextPackets.{none_submittable}
use Rattle.hq_machine.specs.View.{state_of}
use Rattle.hq_machine.proofs.state.State.submittable.Goals as goal

pub returns-then-not-has_slot : goal.returns-then-not-has_slot
returns-then-not-has_slot c =
    let job = plan c.args.job.now in
    none_submittable job (state_of job c.args.self.now) c.in_ok-number.number c.valid.ensures.valid c.in_ok-number.ensures (λ all. let t : c.has_slot.result ≡ true = c.has_slot.ensures.1 all in let f : c.has_slot.result ≡ false = c.if-not-has_slot.true in cc)
