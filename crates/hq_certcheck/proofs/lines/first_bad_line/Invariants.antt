use Rattle.std.proofs.Common.{◌≡◌, ℕ, ◌<◌, ◌≤◌, List, map}
use Rattle.hq_cert.specs.View.{line_of}
use Rattle.hq_job.specs.Plan.{plan}
use Rattle.hq_model.specs.Certificate as model
use Rattle.hq_model.specs.Certificate.{LineHolds}
use Rattle.hq_certcheck.specs.Concluded.{conclusion_of}
use Rattle.hq_certcheck.specs.Listed.{StandAt}
use Rattle.hq_certcheck.proofs.lines.first_bad_line.Given as goal

abbrev pub invariant-loop-k : goal.invariant-loop-k
invariant-loop-k l = (all : List model.Line) → map conclusion_of all ≡ l.lines → StandAt all l.from (map line_of l.found) → (j : ℕ) → l.from ≤ j → j < l.k → LineHolds (plan l.job) all j
