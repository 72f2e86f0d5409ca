use Rattle.std.proofs.Common.{◌≡◌, ◌+◌, ap, sym, ◌∙◌, get_or, arith}
use Rattle.hq_copies.specs.Copies.{written}
use Rattle.hq_copies.specs.Edges.{layered}
use Rattle.hq_copies.specs.Marks.{byte_of}
use Rattle.hq_copies.specs.Overlays.{byte_over}
use Rattle.hq_copies.proofs.Levels.{got, writes, writes_none}
use Rattle.hq_copies.proofs.level.Level.write_to.Goals as goal

pub returns-then-self : goal.returns-then-self
returns-then-self c n l =
    let lower = byte_of c.self.inside.lower n in
    let upper = byte_of c.self.inside.upper n in
    let below = get_or c.args.memory.now n 0 in
    let e : 0 + n ≡ n = omega arith in
    c.write_to.ensures n l
    ∙ ap (λ k. byte_over (byte_of c.self.inside.upper k) below) e
    ∙ writes upper lower below
    ∙ ap (λ t. written t below) (ap (λ d. layered d upper lower) (sym c.if-self.true) ∙ sym (got c.self.inside c.args.self.now c.self.invariant c.self.view_is n))

pub returns-else-self : goal.returns-else-self
returns-else-self c n l =
    let lower = byte_of c.self.inside.lower n in
    let upper = byte_of c.self.inside.upper n in
    writes_none upper lower (get_or c.args.memory.now n 0)
    ∙ ap (λ t. written t (get_or c.args.memory.now n 0)) (ap (λ d. layered d upper lower) (sym c.if-self.false) ∙ sym (got c.self.inside c.args.self.now c.self.invariant c.self.view_is n))
