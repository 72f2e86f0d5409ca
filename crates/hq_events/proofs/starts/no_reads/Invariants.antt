use Rattle.std.proofs.Common.{◌≡◌, [], replicate}
use Rattle.hq_events.proofs.starts.no_reads.Given as goal

abbrev pub invariant-loop : goal.invariant-loop
invariant-loop l = l.rows.items ≡ replicate l.counter []
