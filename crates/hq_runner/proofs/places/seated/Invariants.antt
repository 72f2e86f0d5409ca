use Rattle.std.proofs.Common.{◌≡◌, ◌++◌, All, length, map, vec_len}
use Rattle.hq_board.specs.Calls.{IsSeatOf}
use Rattle.hq_runner.proofs.places.seated.Given as goal

abbrev pub invariant-loop-kits : goal.invariant-loop-kits
invariant-loop-kits g l = record {
  kits : map (λ place. place.kit) l.places.items ++ l.kits.items ≡ l.initial.kits.items;
  count : length l.seats.items ≡ length l.kits.items;
  seats : All (IsSeatOf l.board) l.seats.items;
}

abbrev pub decreases-loop-kits : goal.decreases-loop-kits
decreases-loop-kits g l = vec_len l.kits
