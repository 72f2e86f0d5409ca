use Rattle.std.proofs.Common.{ℕ, ◌*◌, ◌<◌}
use Rattle.hq_derive.specs.declared.ranks.Place.{Place}
use Rattle.hq_derive.specs.Gathered.{lines_of, Goes, IsPlaceOf}
use Rattle.hq_derive.specs.Needed.{WordThere}
use Rattle.hq_derive.proofs.gathering.add_initial.Given as goal

abbrev pub invariant-loop-p : goal.invariant-loop-p
invariant-loop-p l = Goes l.before l.fn.lines l.lines × ((p k : ℕ) (place : Place) → p < l.p → IsPlaceOf l.ranks p k place → WordThere (lines_of l.lines) p place.initial (k * 64))
