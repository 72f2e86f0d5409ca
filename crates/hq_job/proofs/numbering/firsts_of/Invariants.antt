use Rattle.std.proofs.Common.{◌≡◌, map, length}
use Rattle.hq_job.specs.Numbering.{by_number}
use Rattle.hq_model.specs.Journal.{numbers}
use Rattle.hq_job.proofs.numbering.firsts_of.Given as goal

abbrev pub invariant-loop-count : goal.invariant-loop-count
invariant-loop-count l = (l.first ≡ length (by_number l.count-index l.placed)) × (l.firsts.items ≡ map (λ q. length (by_number q l.placed)) (numbers l.count-index))
