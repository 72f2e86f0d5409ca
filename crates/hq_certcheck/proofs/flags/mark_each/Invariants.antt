use Rattle.std.proofs.Common.{◌≡◌, ◌*◌, ◌++◌, List, map, length, take}
use Rattle.hq_cert.specs.View.{pair_of}
use Rattle.hq_model.specs.Certificate as model
use Rattle.hq_certcheck.specs.Covering.{AreListed}
use Rattle.hq_certcheck.proofs.flags.mark_each.Given as goal

abbrev pub invariant-loop-pair : goal.invariant-loop-pair
invariant-loop-pair l = record {
  len : length l.flags ≡ l.count * 48;
  marked : (before : List model.Pair) → AreListed before l.count l.fn.flags → AreListed (before ++ take l.pair-index (map pair_of l.pairs)) l.count l.flags;
}
