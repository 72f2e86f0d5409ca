use Rattle.std.proofs.Common.{◌≡◌, map, take}
use Rattle.hq_cert.specs.View.{line_of}
use Rattle.hq_derive.proofs.store.Store.into_lines.Given as goal

abbrev pub invariant-loop-k : goal.invariant-loop-k
invariant-loop-k l = map line_of l.lines.items ≡ take l.k l.fn.self
