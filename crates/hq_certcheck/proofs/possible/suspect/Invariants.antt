use Rattle.hq_certcheck.proofs.Conflicting.{Suspected}
use Rattle.hq_certcheck.proofs.possible.suspect.Given as goal

abbrev pub invariant-loop-place : goal.invariant-loop-place
invariant-loop-place l = Suspected l.fn.found l.others l.able l.flagged l.place l.found
