use Rattle.std.proofs.Common.{◌≡◌, Some, slice_get, sym, ap, subst, ◌∙◌, arith, ◌<◌}
use Rattle.std.proofs.lemmas.Option.{slice_get-get_or}
use Rattle.hq_derive.specs.Short.{form_of}
use Rattle.hq_derive.proofs.Storing.{word_says}
use Rattle.hq_derive.proofs.shorts.Shorts.says.Goals as goal

pub returns-in-Some : goal.returns-in-Some
returns-in-Some c = λ is.
    let shorts = c.self.inside.shorts.items in
    let short = c.in-Some.short.now in
    let found = c.in-Some.ensures.lookup.3 in
    let at = slice_get-get_or c.deref.result.now c.args.k short found.0 ∙ ap Some (sym (found.1 short)) in
    let there : slice_get shorts c.args.k ≡ Some short = subst (λ xs. slice_get xs c.args.k ≡ Some short) c.deref.ensures.value at in
    let said = c.is_of.ensures is in
    let low : form_of short < 4 = omega (arith, c.if-form-lt4.true, c.form.ensures) in
    word_says c.self.inside.kept.items shorts c.args.self.now c.args.k c.args.p c.args.r short c.self.view_is there low said.0 said.1
