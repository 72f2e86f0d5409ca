use Rattle.std.proofs.Common.{◌≡◌, ◌<◌, length, sym, subst, arith}
use Rattle.hq_model.specs.Certificate.{Says}
use Rattle.hq_derive.specs.Gathered.{lines_of}
use Rattle.hq_derive.specs.Short.{told}
use Rattle.hq_derive.proofs.Noting.{said_here, says_here}
use Rattle.hq_derive.proofs.lines.Lines.search.Goals as goal

pub lines-preserved : goal.lines-preserved
lines-preserved c =
    let lines = lines_of c.args.self.now in
    let k = c.lines.k in
    let inv = c.lines.invariant in
    let apart : k ≡ inv.0 → ⊥ = λ e.
    let said = c.says.ensures.1 (said_here lines k c.args.p c.args.r (told c.line.result) c.line.ensures (subst (λ n. Says lines (length lines) n c.args.p c.args.r) (sym e) inv.2.0)) in
    cc (said, c.if-not-says.true) in
    (inv.0, omega (arith, inv.1, apart), inv.2)

pub returns : goal.returns
returns c =
    let lines = lines_of c.args.self.now in
    let k = c.lines.k in
    let inv = c.lines.invariant in
    let low : k < length lines = omega (arith, inv.1, inv.2.0.lower) in
    let said = c.says.ensures.0 (cc (c.if-not-says.false)) in
    (says_here lines k c.args.p c.args.r (told c.line.result) low c.line.ensures said.0 said.1, omega (arith, inv.1, inv.2.1))
