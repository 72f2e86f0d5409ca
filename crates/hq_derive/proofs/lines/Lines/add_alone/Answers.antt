use Rattle.std.proofs.Common.{length, refl, arith}
use Rattle.hq_derive.specs.Gathered.{lines_of}
use Rattle.hq_derive.proofs.Adding.{adds_line}
use Rattle.hq_derive.proofs.lines.Lines.add_alone.Goals as goal

pub returns : goal.returns
returns c =
    let lines = lines_of c.args.self.now in
    adds_line c.args.before.now c.args.self.now _ c.args.p c.args.r c.args.rule c.requires.kept (c.requires.rule lines (length lines)) c.in_ok-push.ensures.puts (let few = c.in_ok-push.ensures.few in omega (arith, few)) refl
