use Rattle.std.proofs.Common.{map, take}
use Rattle.hq_job.specs.Plan.{plan}
use Rattle.hq_derive.specs.Gathered.{lines_of}
use Rattle.hq_audit.specs.Packed.{unpacked}
use Rattle.hq_audit.specs.Paired.{PairsGo}
use Rattle.hq_audit.proofs.citing.cite_list.Given as goal

abbrev pub invariant-loop-packed : goal.invariant-loop-packed
invariant-loop-packed l = PairsGo (plan l.job) (lines_of l.lines) (take l.packed-index (map unpacked l.drafts)) l.fn.pairs l.pairs
