use Rattle.std.proofs.Common.{◌+◌, arith, length, ap}
use Rattle.hq_copies.specs.Edges.{has}
use Rattle.hq_copies.specs.Copies.{count_below}
use Rattle.hq_copies.proofs.Counts.{count_mono}
use Rattle.hq_copies.proofs.runs.Runs.put.Goals as goal

pub overflow_sub-last : goal.overflow_sub-last
overflow_sub-last c =
    let edges = c.args.self.now.edges.items in
    let end = c.args.start + length c.args.bytes.now in
    let a = ap (λ t. count_below (has t) c.args.start) c.deref.ensures.value in
    let b = ap (λ t. count_below (has t) end) c.deref-2.ensures.value in
    omega (arith, c.find-first.ensures.index, c.find-last.ensures.index, a, b, count_mono (has edges) c.args.start end (omega arith))
