use Rattle.std.proofs.Common.{◌≡◌, ◌<◌, ℕ, List, IfOk, length, ◌∙◌, subst, ap}
use Rattle.hq_footprint.specs.Tasks.{result_of}
use Rattle.hq_job.specs.Plan.{plan}
use Rattle.hq_model.specs.Job.{packet}
use Rattle.hq_model.specs.Machine.{bytes_read, bytes_stored}
use Rattle.hq_machine.proofs.Wholes.{not_empty, whole_read}
use Rattle.hq_machine.specs.View.{state_of}
use Rattle.hq_machine.proofs.state.State.task_bytes.Goals as goal

pub returns-then-not-is_empty-clause-bytes : goal.returns-then-not-is_empty-clause-bytes
returns-then-not-is_empty-clause-bytes c =
    let job = plan c.args.job.now in
    let v = c.args.self.now in
    let p = c.args.packet in
    let whole = c.whole_reads-whole.result.now in
    let some : 0 < length whole = not_empty (length whole) c.is_empty.result c.is_empty.ensures c.if-not-is_empty.true in
    let read : whole ≡ bytes_read job (state_of job v) p = whole_read job v p whole c.requires.is c.requires.packet some (c.whole_reads-whole.ensures some) in
    let made : result_of c.task_of-task.result c.write_count-count.result whole ≡ bytes_stored job (state_of job v) p =
    ap (λ (xs : List ℕ). result_of c.task_of-task.result c.write_count-count.result xs) read
    ∙ ap (λ (n : ℕ). result_of c.task_of-task.result n (bytes_read job (state_of job v) p)) c.write_count-count.ensures
    ∙ ap (λ t. result_of t (length (packet job p).writes) (bytes_read job (state_of job v) p)) c.task_of-task.ensures.is in
    subst (λ (xs : List ℕ). IfOk c.evaluated.result (λ bytes. bytes.items ≡ xs)) made c.evaluated.ensures.bytes
