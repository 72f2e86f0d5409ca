use Rattle.std.proofs.Common.{rules, arith}
use Rattle.std.proofs.lemmas.List.{length-map}
use Rattle.hq_cert.specs.View.{line_of}
use Rattle.hq_certread.proofs.ReadAhead.{passed}
use Rattle.hq_certread.proofs.progress.Progress.pass.Goals as goal

pub returns-clause-passed : goal.returns-clause-passed
returns-clause-passed c text lines front gone is h none none_too =
    let awaits = c.awaits.ensures.0 (search rules) in
    let counts = c.if-not-pass.ensures.passed (search rules) in
    let many = length-map c.args.ahead.now.lines.items line_of in
    passed text c.args.ahead.now lines front gone c.args.self.now _ awaits.0 awaits.1 is h none none_too (omega (arith, counts.0, many)) counts.2 c.in-Some.ensures.1

pub returns-clause-within : goal.returns-clause-within
returns-clause-within c text is = is.within
