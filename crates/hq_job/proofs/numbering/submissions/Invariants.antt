use Rattle.std.proofs.Common.{◌≡◌, map}
use Rattle.hq_job.specs.Numbering.{number_of}
use Rattle.hq_job.proofs.Counted.{Counted}
use Rattle.hq_model.specs.Journal.{numbers}
use Rattle.hq_job.proofs.numbering.submissions.Given as goal

abbrev pub invariant-loop-packet : goal.invariant-loop-packet
invariant-loop-packet l = record {
  counted : Counted (λ p. p.queue) l.queues l.placed l.packet-index l.next.items;
  numbers : l.numbers.items ≡ map (number_of (λ p. p.queue) l.placed) (numbers l.packet-index);
}
