use Rattle.std.proofs.Common.{take, All, IsTrue}
use Rattle.hq_runner.specs.Journals.{is_asked}
use Rattle.hq_runner.proofs.owner.are_asked.Given as goal

abbrev pub invariant-loop-event : goal.invariant-loop-event
invariant-loop-event l = All (λ event. IsTrue (is_asked event)) (take l.event-index l.journal)
