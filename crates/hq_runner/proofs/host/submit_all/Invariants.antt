use Rattle.std.proofs.Common.{◌≡◌, map, replicate}
use Rattle.hq_events.specs.Events.{coarse_of}
use Rattle.hq_model.specs.Journal.Coarse.{One}
use Rattle.hq_model.specs.Machine.Event.{Submit}
use Rattle.hq_runner.proofs.host.submit_all.Given as goal

abbrev pub invariant-loop : goal.invariant-loop
invariant-loop g l = map coarse_of l.desk.events.items ≡ replicate l.counter (One Submit)
