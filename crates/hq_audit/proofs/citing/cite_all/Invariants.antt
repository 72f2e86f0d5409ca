use Rattle.std.proofs.Common.{take}
use Rattle.hq_job.specs.Plan.{plan}
use Rattle.hq_derive.specs.Gathered.{lines_of}
use Rattle.hq_audit.specs.Drafted.{listed}
use Rattle.hq_audit.specs.Paired.{pairs_of, ArePairsOf}
use Rattle.hq_audit.proofs.citing.cite_all.Given as goal

abbrev pub invariant-loop-list : goal.invariant-loop-list
invariant-loop-list l = ArePairsOf (plan l.job) (lines_of l.lines) (listed (take l.list-index l.lists)) (pairs_of l.pairs)
