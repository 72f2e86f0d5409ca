use Rattle.std.proofs.Common.{◌≡◌, ℕ, ◌<◌, ◌≤◌, ◌∙◌, false, true, ap, sym, subst, arith, length, IsTrue}
use Rattle.std.specs.Global.{Vec}
use Rattle.hq_bits.specs.declared.TheConstants.{WORDS}
use Rattle.hq_bits.specs.Bits.{has}
use Rattle.hq_rows.proofs.Rows.{row_is}
use Rattle.hq_graph.proofs.rows.next_step.Goals as goal

pub next_in-requires-clause-few : goal.next_in-requires-clause-few
next_in-requires-clause-few c =
    let steps = c.requires.sees.steps in
    let low : c.args.r < length c.args.sight.now.steps.now = omega (arith, steps.height, c.requires.r) in
    let is = row_is c.args.sight.now.steps.now c.args.r c.index-sight-r.result low c.index-sight-r.is ∙ ap (λ (v : Vec ℕ). v.items) c.index-sight-r.is ∙ sym c.deref.ensures.value in
    let few : length c.deref.result.now ≤ WORDS = subst (λ words. length words ≤ WORDS) is (steps.width c.args.r c.requires.r) in
    omega (arith, few)

pub returns-clause-none : goal.returns-clause-none
returns-clause-none c = λ p from low step.
    let steps = c.requires.sees.steps in
    let inside : c.args.r < length c.args.sight.now.steps.now = omega (arith, steps.height, c.requires.r) in
    let is = row_is c.args.sight.now.steps.now c.args.r c.index-sight-r.result inside c.index-sight-r.is ∙ ap (λ (v : Vec ℕ). v.items) c.index-sight-r.is ∙ sym c.deref.ensures.value in
    let there : IsTrue (has c.deref.result.now p) = subst (λ words. IsTrue (has words p)) is ((steps.exact p c.args.r c.requires.r).1 step) in
    let t : true ≡ false = sym there ∙ c.next_in.ensures.none p from low in
    cc
