use Rattle.std.proofs.Common.{◌≡◌, ◌≤◌, false, true}
use Rattle.hq_change.specs.Levels.{AreLowered, SomeOther}
use Rattle.hq_change.proofs.heads.lower_between.Given as goal

abbrev pub invariant-loop-p : goal.invariant-loop-p
invariant-loop-p l = record {
  above : l.from ≤ l.p;
  lowered : AreLowered l.level l.floor l.from l.p l.fn.heads l.heads;
  none : l.some ≡ false → l.heads ≡ l.fn.heads;
  some : l.some ≡ true → SomeOther l.fn.heads l.heads;
}
