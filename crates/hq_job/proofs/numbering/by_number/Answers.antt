use Rattle.std.proofs.Common.{sym}
use Rattle.hq_job.proofs.InOrder.{in_order}
use Rattle.hq_job.proofs.numbering.by_number.Goals as goal

pub returns-then-in_order : goal.returns-then-in_order
returns-then-in_order c = sym (in_order (λ p. p.queue) c.args.queues c.args.placed.items (c.requires.rises c.if-in_order.true) c.requires.below)
