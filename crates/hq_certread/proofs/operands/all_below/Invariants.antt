use Rattle.std.proofs.Common.{◌≡◌, drop}
use Rattle.std.specs.Prelude.{map}
use Rattle.hq_cert.specs.View.{cited}
use Rattle.hq_certread.specs.LineTests.{each, cited_below}
use Rattle.hq_certread.proofs.Each.{with_front}
use Rattle.hq_certread.proofs.operands.all_below.Given as goal

abbrev pub invariant-loop-number : goal.invariant-loop-number
invariant-loop-number l = with_front (map cited l.citations.items) (each (cited_below l.limit) (drop l.number-index l.numbers)) ≡ each (cited_below l.limit) l.numbers
