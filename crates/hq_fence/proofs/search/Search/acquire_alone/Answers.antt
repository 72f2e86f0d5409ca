use Rattle.std.proofs.Common.{arith}
use Rattle.hq_fence.specs.Asking.{AcquiresAfter}
use Rattle.hq_fence.proofs.Wrapping.{none_in_queue}
use Rattle.hq_fence.proofs.search.Search.acquire_alone.Goals as goal

pub returns-clause-exact : goal.returns-clause-exact
returns-clause-exact c = λ y a.
    none_in_queue c.args.self.now.before.now c.args.self.now.r c.args.self.now.queue_of_r c.behind-circuit.result
    (AcquiresAfter c.args.self.now.before.now c.args.self.now.r c.args.needed c.args.other) c.loop-turn.turn
    c.requires.queue_of_r c.behind-circuit.ensures.circuit c.behind-circuit.ensures.start c.behind-circuit.ensures.end (omega arith)
    c.loop-turn.invariant y a.acquires.fence.is_packet a.acquires.fence.queue a
