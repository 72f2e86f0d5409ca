use Rattle.std.proofs.Common.{◌≡◌, ◌+◌, ◌*◌, ◌≤◌, take, sum_by}
use Rattle.hq_job.specs.Plan.{plan, planned}
use Rattle.hq_model.specs.declared.limits.TheConstants.{BYTES}
use Rattle.hq_model.specs.Machine.{own_steps, bound_of}
use Rattle.hq_certcheck.proofs.steps.steps.Given as goal

abbrev pub invariant-loop-packet : goal.invariant-loop-packet
invariant-loop-packet l = record {
  own : l.own ≡ own_steps (plan l.job);
  few : l.own ≤ 4;
  sum : l.steps ≡ sum_by (λ p. bound_of (plan l.job) (planned p)) (take l.packet-index l.job.packets);
  low : l.steps ≤ l.packet-index * (9 + 5 * BYTES);
}
