use Rattle.std.proofs.Common.{◌≡◌, ℕ, length, drop, unwrap_or, ◌∙◌, ap, arith}
use Rattle.hq_job.specs.Plan.{plan}
use Rattle.hq_model.specs.Machine.{listed}
use Rattle.hq_machine.proofs.Filled.{all_filled}
use Rattle.hq_machine.specs.View.{state_of}
use Rattle.hq_machine.proofs.state.State.bytes_read.Goals as goal

pub returns : goal.returns
returns c =
    let job = plan c.args.job.now in
    let f = λ (i : ℕ). unwrap_or ((state_of job c.args.self.now).read c.args.packet i) 0 in
    let bytes = c.copy_reads.new.bytes in
    let len : length bytes ≡ c.in_ok-bytes.bytes.len = omega (arith, c.copy_reads.auto.bytes, c.deref_mut.ensures.len, c.in_ok-bytes.bytes.ok.0) in
    all_filled c.in_ok-bytes.bytes.len f bytes (drop (length bytes) c.in_ok-bytes.bytes.items) len (λ k l. c.copy_reads.ensures job k (omega (arith, l, len, c.copy_reads.auto.bytes)))
    ∙ ap (λ n. listed n f) (c.in_ok-bytes.ensures.len ∙ c.read_count.ensures)
