use Rattle.std.proofs.Common.{◌≡◌, ◌-◌, ◌<◌, ◌≤◌, ◌++◌, length, sym, ap, subst, ◌∙◌, arith, slice_index_or}
use Rattle.hq_model.specs.Certificate.{Says}
use Rattle.hq_derive.specs.declared.short.Short.{Short}
use Rattle.hq_derive.specs.Short.{form_of, p_of, r_of}
use Rattle.hq_derive.specs.Through.{lines_by}
use Rattle.hq_derive.proofs.Middles.{blank, short_said}
use Rattle.hq_derive.proofs.through.packets_of.Goals as goal

pub returns : goal.returns
returns c = λ limit l.
    let ahead = c.args.ahead.now in
    let shorts = c.args.shorts.now in
    let number = c.args.number in
    let lines = ahead ++ lines_by shorts in
    let long : c.len-count.result ≡ length ahead = c.len-count.ensures.is in
    let above : length ahead ≤ number = omega (arith, long, c.if-number-count.false) in
    let s : Short = slice_index_or shorts (number - length ahead) blank in
    let at : slice_index_or shorts (number - c.len-count.result) blank ≡ s = ap (λ n. slice_index_or shorts (number - n) blank) long in
    let low : form_of s < 4 = omega (arith, c.if-form-gt-THROUGH.false, c.form.ensures, ap form_of at) in
    subst (λ p. Says lines limit number p c.r.result) (sym (c.p.ensures ∙ ap p_of at))
    (subst (λ r. Says lines limit number (p_of s) r) (sym (c.r.ensures ∙ ap r_of at)) (short_said ahead shorts number above c.requires low limit l))
