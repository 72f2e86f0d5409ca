use Rattle.std.proofs.Common.{take}
use Rattle.hq_ledger.specs.Grants.{IsClear}
use Rattle.hq_ledger.proofs.grants.first_clash.Given as goal

abbrev pub invariant-loop-other : goal.invariant-loop-other
invariant-loop-other l = IsClear (take l.other-index l.out) l.grant
