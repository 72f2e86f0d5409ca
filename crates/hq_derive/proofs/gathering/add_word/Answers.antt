use Rattle.std.proofs.Common.{◌≡◌, ◌+◌, inl, inr, sym, ◌∙◌, ap, subst, arith, IsTrue, rules}
use Rattle.std.specs.Int.{bit_at}
use Rattle.std.proofs.lemmas.Bool.{cases_eq}
use Rattle.std.proofs.lemmas.Nat.Bits.{bit_at-zero}
use Rattle.hq_derive.specs.Gathered.{lines_of}
use Rattle.hq_derive.specs.Needed.{HasLine}
use Rattle.hq_derive.proofs.Growing.{has_more}
use Rattle.hq_derive.proofs.Adding.{goes_same, goes_more}
use Rattle.hq_derive.proofs.gathering.add_word.Goals as goal

pub each-init : goal.each-init
each-init c = (goes_same c.args.before.now c.args.lines.now c.requires.kept, λ bit low is. inl is)

pub each-preserved : goal.each-preserved
each-preserved c =
    let old = c.each.lines in
    let new = c.add_one.new.lines in
    let goes = c.in_ok-add_one.ensures.goes in (
      goes_more c.args.before.now c.args.lines.now old new c.each.invariant.0 goes,
      λ b low is. elim (c.each.invariant.1 b low is) [
        | inl left ↦ elim (cases_eq b c.lowest-bit.result) [
          | inl here ↦
              let there : IsTrue c.in_ok-add_one.field-0 = search rules in
              inr (subst (λ n. HasLine (lines_of new) c.args.p (c.args.first + n)) (sym here) (c.in_ok-add_one.ensures.there there))
          | inr apart ↦ inl (c.without-rest.ensures.same b low apart ∙ left)
        ]
        | inr there ↦ inr (has_more (lines_of old) (lines_of new) c.args.p (c.args.first + b) goes.grown there)
      ],
    )

pub returns-clause-there : goal.returns-clause-there
returns-clause-there c = λ t b low is. elim (c.each.invariant.1 b low is) [
  | inl left ↦ let none : c.each.rest ≡ 0 = omega (arith, c.each-test.false) in absurd (let e : 0 ≡ 1 = sym (bit_at-zero b) ∙ ap (λ w. bit_at w b) (sym none) ∙ left in omega (arith, e))
  | inr there ↦ there
]
