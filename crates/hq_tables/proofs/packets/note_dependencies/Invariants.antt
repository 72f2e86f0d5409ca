use Rattle.std.proofs.Common.{◌≡◌, take}
use Rattle.std.specs.Prelude.{map}
use Rattle.hq_tables.specs.Tables.{awaited}
use Rattle.hq_tables.proofs.packets.note_dependencies.Given as goal

abbrev pub invariant-loop-dep : goal.invariant-loop-dep
invariant-loop-dep l = l.signals ≡ map (awaited (take l.dep-index l.deps)) l.fn.signals
