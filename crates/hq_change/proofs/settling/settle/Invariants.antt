use Rattle.std.proofs.Common.{◌+◌, ◌*◌, ◌<◌, ◌≤◌, length}
use Rattle.hq_job.specs.Heads.{SameButHeads}
use Rattle.hq_job.specs.Plan.{plan}
use Rattle.hq_model.specs.Settings.{Raises}
use Rattle.hq_parts.specs.Parts.{AreParts}
use Rattle.hq_change.specs.Minimal.{Fit, IsOn, SettledFrom}
use Rattle.hq_change.proofs.settling.settle.Given as goal

abbrev pub invariant-down : goal.invariant-down
invariant-down g l = record {
  on : IsOn l.search.floor.now (plan l.job) l.heads.items;
  below : Raises (plan l.job) (plan l.fn.job);
  same : SameButHeads l.fn.job l.job;
  fit : Fit l.search.level (plan l.job) l.rounds;
  parts : AreParts (plan l.job) l.search.parts.now;
  settled : SettledFrom l.search.level l.search.floor.now (plan l.job) l.to;
  few : l.to ≤ length l.job.packets;
  some : 0 < l.to → 0 < l.many;
  most : l.many ≤ 1024;
}

abbrev pub decreases-down : goal.decreases-down
decreases-down g l = l.to * 4096 + l.many
