use Rattle.std.proofs.Common.{length, ap, arith}
use Rattle.hq_tables.specs.Blocks.{Bytes}
use Rattle.std.proofs.lemmas.List.Concat.{length-flat_map}
use Rattle.hq_machine.proofs.state.first_copies.Goals as goal

pub new-requires-clause-bytes : goal.new-requires-clause-bytes
new-requires-clause-bytes c =
    let few = c.valid.ensures.limits.bytes in
    let e = ap length c.in_ok-memory.ensures in
    omega (arith, few, e, length-flat_map (λ (b : Bytes). b.bytes) c.args.job.now.buffers)
