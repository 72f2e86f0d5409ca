use Rattle.std.proofs.Common.{arith}
use Rattle.std.proofs.lemmas.Bool.{lt-ltb, ltb-true}
use Rattle.hq_graph.proofs.turns.has_slot.Goals as goal

pub returns-then-freeing-p : goal.returns-then-freeing-p
returns-then-freeing-p c =
    let are = c.freeing-freeing.ensures.are c.args.p in
    let end = c.freeing-freeing.result.end in (
      λ below. are.1 (omega (arith, c.if-freeing-p.true), ltb-true c.args.p end below),
      λ frees. lt-ltb c.args.p end (are.0 frees).1,
    )
