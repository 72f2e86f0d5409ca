use Rattle.hq_job.proofs.Counted.{CountedFrom}
use Rattle.hq_job.proofs.numbering.counts_of.Given as goal

abbrev pub invariant-loop-packet : goal.invariant-loop-packet
invariant-loop-packet l = CountedFrom (λ _. 0) (λ p. p.queue) l.queues l.placed l.packet-index l.counts.items
