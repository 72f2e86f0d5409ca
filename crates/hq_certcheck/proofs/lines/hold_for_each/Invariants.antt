use Rattle.std.proofs.Common.{map}
use Rattle.hq_cert.specs.View.{cited}
use Rattle.hq_job.specs.Plan.{plan}
use Rattle.hq_certcheck.specs.Listed.{HoldsFor}
use Rattle.hq_certcheck.proofs.Zipped.{Zipped}
use Rattle.hq_certcheck.specs.Concluded.{bare}
use Rattle.hq_certcheck.proofs.lines.hold_for_each.Given as goal

abbrev pub invariant-loop-slot : goal.invariant-loop-slot
invariant-loop-slot l = Zipped (HoldsFor (plan l.job) (map bare l.lines) l.limit l.p) l.slots (map cited l.branches) l.slot-index l.next
