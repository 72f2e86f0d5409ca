use Rattle.std.proofs.Common.{◌≡◌, ℕ, ◌*◌, ◌<◌, Some, slice_get}
use Rattle.hq_derive.specs.declared.ranks.Place.{Place}
use Rattle.hq_derive.specs.Gathered.{lines_of, Goes}
use Rattle.hq_derive.specs.Needed.{WordThere}
use Rattle.hq_derive.proofs.gathering.add_row.Given as goal

abbrev pub invariant-loop-k : goal.invariant-loop-k
invariant-loop-k l = Goes l.before l.fn.lines l.lines × ((k : ℕ) (place : Place) → k < l.k → slice_get l.places k ≡ Some place → WordThere (lines_of l.lines) l.p place.initial (k * 64))
