use Rattle.std.proofs.Common.{refl}
use Rattle.std.specs.Prelude.{map}
use Rattle.std.proofs.lemmas.List.{map-append}
use Rattle.hq_model.specs.Certificate as model
use Rattle.hq_cert.specs.View.{line_of, rule_of}
use Rattle.hq_certread.proofs.Taking.{line_taken, no_leading_lines, number_more}
use Rattle.hq_certread.proofs.leading.leading_lines.Goals as goal

pub loop-p-init : goal.loop-p-init
loop-p-init c = record {
  taken = no_leading_lines c.args.before c.args.text.now (map line_of c.args.lines.now.items);
  number = refl;
}

pub returns-then-number : goal.returns-then-number
returns-then-number c =
    let so = c.loop-p.invariant in
    line_taken c.args.text.now c.loop-p.rest.now c.in-Some-rule.behind.now c.loop-p.taken c.args.before c.loop-p.number _ (map line_of c.loop-p.lines.items) _ (record { p = c.in-Some.p; r = c.in-Some.r; rule = rule_of c.in-Some-rule.rule })
    so.taken so.number (c.in-Some.ensures.ahead.leads _ _ c.in-Some-rule.ensures) (rw (c.in_ok-push.ensures.items, map-append) refl)

pub loop-p-preserved : goal.loop-p-preserved
loop-p-preserved c =
    let so = c.loop-p.invariant in
    let line : model.Line = record { p = c.in-Some.p; r = c.in-Some.r; rule = rule_of c.in-Some-rule.rule } in
    record {
      taken = line_taken c.args.text.now c.loop-p.rest.now c.in-Some-rule.behind.now c.loop-p.taken c.args.before c.loop-p.number _ (map line_of c.loop-p.lines.items) _ line
          so.taken so.number (c.in-Some.ensures.ahead.leads _ _ c.in-Some-rule.ensures) (rw (c.in_ok-push.ensures.items, map-append) refl);
      number = number_more c.args.before c.loop-p.number _ (map line_of c.loop-p.lines.items) _ line so.number (rw (c.in_ok-push.ensures.items, map-append) refl);
    }
