use Rattle.hq_tables.proofs.Found.{row_named}
use Rattle.hq_tables.proofs.finding.has_kernel.Goals as goal

pub returns : goal.returns
returns c = row_named (λ k. k.name) c.args.kernels.now c.args.name c.any_kernel_named.result c.any_kernel_named.ensures
