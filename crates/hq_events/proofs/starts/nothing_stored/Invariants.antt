use Rattle.std.proofs.Common.{◌≡◌, replicate}
use Rattle.hq_events.specs.Rows.{no_stores}
use Rattle.hq_events.proofs.starts.nothing_stored.Given as goal

abbrev pub invariant-loop : goal.invariant-loop
invariant-loop l = l.rows.items ≡ replicate l.counter no_stores
