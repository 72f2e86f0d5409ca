use Rattle.std.proofs.Common.{ℕ, Option, unwrap_or, ◌∙◌, ap, arith}
use Rattle.hq_machine.proofs.Filled.{filled_more}
use Rattle.hq_machine.specs.View.{state_of}
use Rattle.hq_machine.proofs.state.State.copy_reads.Goals as goal

pub loop-entry-preserved : goal.loop-entry-preserved
loop-entry-preserved c = λ job.
    let f = λ (i : ℕ). unwrap_or ((state_of job c.args.self.now).read c.args.packet i) 0 in
    filled_more f c.loop-entry.bytes c.loop-entry.entry c.unwrap_or.result (omega (arith, c.loop-entry-test.true)) (c.unwrap_or.ensures ∙ ap (λ (o : Option ℕ). unwrap_or o 0) (c.read_byte.ensures job)) (c.loop-entry.invariant job)
