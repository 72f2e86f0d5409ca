use Rattle.std.proofs.Common.{◌+◌, ap, sym, ◌∙◌}
use Rattle.hq_kernels.proofs.Moves.{some_left}
use Rattle.hq_kernels.proofs.kit.Body.unload.Goals as goal

pub unload_one-requires-clause-some : goal.unload_one-requires-clause-some
unload_one-requires-clause-some g c =
    some_left c.args.pieces.now.items _ c.loop.pieces.items _ c.loop.counter c.args.count c.loop.invariant.held
    (sym c.loop.pieces.ok.0 ∙ c.loop.invariant.count ∙ ap (λ n. n + c.loop.counter) c.args.pieces.now.ok.0)
    c.loop-test.true c.requires.count
