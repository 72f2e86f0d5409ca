use Rattle.std.proofs.Common.{◌+◌, ◌*◌, take}
use Rattle.hq_model.specs.Certificate.{signals}
use Rattle.hq_derive.specs.Gathered.{AllBranched}
use Rattle.hq_derive.proofs.lines.Lines.+number.Given as goal

abbrev pub decreases-numbered : goal.decreases-numbered
decreases-numbered l = 6 * l.round + 5

abbrev pub decreases-rule : goal.decreases-rule
decreases-rule l = 6 * l.round + 4

abbrev pub decreases-either : goal.decreases-either
decreases-either l = 6 * l.round + 3

abbrev pub decreases-through : goal.decreases-through
decreases-through l = 6 * l.round + 2

abbrev pub decreases-branches : goal.decreases-branches
decreases-branches l = 6 * l.round + 2

abbrev pub decreases-branch : goal.decreases-branch
decreases-branch l = 6 * l.round + 1

abbrev pub decreases-cited : goal.decreases-cited
decreases-cited l = 6 * l.round

abbrev pub invariant-branches-loop-slot : goal.invariant-branches-loop-slot
invariant-branches-loop-slot l = AllBranched l.before l.fn.self l.self l.p (signals (take l.slot-index l.slots)) l.citations.items
