use Rattle.std.proofs.Common.{rules}
use Rattle.hq_kernels.proofs.Tasks.{performs_one, performs_two, performs_three}
use Rattle.hq_kernels.proofs.stock.perform_in.Goals as goal

pub returns-in-One-clause-performed : goal.returns-in-One-clause-performed
returns-in-One-clause-performed c = search (rules, performs_one)

pub returns-in-Two-clause-performed : goal.returns-in-Two-clause-performed
returns-in-Two-clause-performed c = search (rules, performs_two)

pub returns-in-Three-clause-performed : goal.returns-in-Three-clause-performed
returns-in-Three-clause-performed c = search (rules, performs_three)
