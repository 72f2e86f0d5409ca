use Rattle.std.proofs.Common.{◌≡◌, take, IfNone, IsNone, None}
use Rattle.hq_runner.specs.Outcomes.{NoFault}
use Rattle.hq_runner.proofs.finish.first_fault.Given as goal

abbrev pub invariant-loop-ended : goal.invariant-loop-ended
invariant-loop-ended g l = record {
  all : IfNone l.told (NoFault (take l.ended-index l.all));
  host : IfNone l.told (l.fn.host ≡ None);
  none : NoFault l.all → l.fn.host ≡ None → IsNone l.told;
}
