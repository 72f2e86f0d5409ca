use Rattle.std.proofs.Common.{arith}
use Rattle.std.proofs.lemmas.Grind.{common_steps}
use Rattle.hq_plain.specs.Changes.{is_lowered}
use Rattle.hq_plain.proofs.Counted.{few_where}
use Rattle.hq_plain.proofs.changes.Lowered.of.Goals as goal

pub overflow_add-result : goal.overflow_add-result
overflow_add-result c =
    let olds = c.args.olds.now in
    let packets = c.args.job.now.packets in
    grind (arith, common_steps, c.valid.ensures.limits.packets, few_where (λ old new. is_lowered old.acquire new.acquire) olds packets, few_where (λ old new. is_lowered old.release new.release) olds packets)
