use Rattle.std.proofs.Common.{sym, subst, arith}
use Rattle.hq_copies.specs.Edges.{IsRising}
use Rattle.hq_copies.proofs.Edges.{toggled_rising}
use Rattle.hq_copies.proofs.runs.turn.Goals as goal

pub toggle-requires-2-clause-rising : goal.toggle-requires-2-clause-rising
toggle-requires-2-clause-rising c = subst (IsRising 0) (sym c.toggle.ensures.edges) (toggled_rising c.args.start 0 c.args.edges.now.items c.requires.rising (omega arith))
