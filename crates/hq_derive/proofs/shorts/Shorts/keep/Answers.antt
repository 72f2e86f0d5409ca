use Rattle.std.proofs.Common.{◌≡◌, [], ◌∷◌, ◌++◌, length, ap, ◌∙◌}
use Rattle.std.proofs.lemmas.Result.{on_ok_weaker}
use Rattle.hq_cert.specs.declared.certificate.Line.{Line}
use Rattle.hq_cert.specs.declared.certificate.Rule.TheVariants.{Or}
use Rattle.hq_cert.specs.View.{line_of}
use Rattle.hq_derive.proofs.Storing.{kept_lines, kept_placed}
use Rattle.hq_derive.proofs.shorts.Shorts.keep.Goals as goal

pub invariant_of-self-2 : goal.invariant_of-self-2
invariant_of-self-2 c =
    let kept = c.self.inside.kept in
    let at : c.len-number.result ≡ length kept.items = c.len-number.ensures ∙ kept.ok.0 in
    kept_placed kept.items c.push.new.self.items _ c.self.inside.shorts.items c.put.new.shorts.items c.len-number.result c.in_ok-push.ensures.items c.self.invariant c.put.ensures.placed at

pub returns-clause-puts : goal.returns-clause-puts
returns-clause-puts c = on_ok_weaker c.put.result (λ puts.
    let kept = c.self.inside.kept in
    let at : c.len-number.result ≡ length kept.items = c.len-number.ensures ∙ kept.ok.0 in
    let line : Line = record { p = c.args.p; r = c.args.r; rule = Or c.args.branches } in
    kept_lines kept.items c.push.new.self.items line c.self.inside.shorts.items c.put.new.shorts.items c.args.p c.args.r c.len-number.result c.in_ok-push.ensures.items c.self.invariant puts at
    ∙ ap (λ ls. ls ++ line_of line ∷ []) c.self.view_is) c.put.ensures.puts
