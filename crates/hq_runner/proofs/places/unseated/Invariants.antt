use Rattle.std.proofs.Common.{◌≡◌, ◌++◌, map, vec_len}
use Rattle.hq_runner.proofs.places.unseated.Given as goal

abbrev pub invariant-loop-kits : goal.invariant-loop-kits
invariant-loop-kits g l = map (λ place. place.kit) l.places.items ++ l.kits.items ≡ l.initial.kits.items

abbrev pub decreases-loop-kits : goal.decreases-loop-kits
decreases-loop-kits g l = vec_len l.kits
