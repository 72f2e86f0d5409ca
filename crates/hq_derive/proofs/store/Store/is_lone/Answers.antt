use Rattle.std.proofs.Common.{◌≡◌, Some, slice_get, sym, ap, subst, ◌∙◌}
use Rattle.std.proofs.lemmas.Option.{slice_get-get_or}
use Rattle.hq_derive.proofs.Storing.{lone_number}
use Rattle.hq_derive.proofs.store.Store.is_lone.Goals as goal

pub returns-in-Some : goal.returns-in-Some
returns-in-Some c = λ is.
    let lone = c.self.inside.lone.items in
    let line = c.in-Some.line.now in
    let found = c.in-Some.ensures.lookup.3 in
    let at = slice_get-get_or c.deref.result.now c.args.k line found.0 ∙ ap Some (sym (found.1 line)) in
    let there : slice_get lone c.args.k ≡ Some line = subst (λ xs. slice_get xs c.args.k ≡ Some line) c.deref.ensures.value at in
    let said = c.says.ensures is in
    lone_number lone c.self.inside.shorts c.args.self.now c.args.k c.args.p c.args.r line c.self.view_is c.self.invariant there said.0 said.1
