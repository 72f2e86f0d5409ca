use Rattle.std.proofs.Common.{◌≡◌, ◌+◌, ◌*◌, inl, inr, sym, ◌∙◌, ap, subst, arith}
use Rattle.std.specs.Int.{bit_at}
use Rattle.std.proofs.lemmas.Bool.{cases_eq}
use Rattle.std.proofs.lemmas.Nat.Bits.{bit_at-zero}
use Rattle.hq_rows.specs.Matrix.{Marks}
use Rattle.hq_rows.proofs.gathering.covers_each.Goals as goal

pub each-init : goal.each-init
each-init c = λ bit p low is marked. inl is

pub each-preserved : goal.each-preserved
each-preserved c = λ b p low is marked. elim (c.each.invariant b p low is marked) [
  | inl left ↦ elim (cases_eq b c.lowest-bit.result) [
    | inl here ↦ inr (c.covers_row.ensures c.if-not-covers_row.false p (subst (λ n. Marks c.args.rows.now p (c.args.place * 64 + n)) here marked))
    | inr apart ↦ inl (c.without-rest.ensures.same b low apart ∙ left)
  ]
  | inr covered ↦ inr covered
]

pub returns : goal.returns
returns c = λ t b p low is marked. elim (c.each.invariant b p low is marked) [
  | inl left ↦ let none : c.each.rest ≡ 0 = omega (arith, c.each-test.false) in absurd (let e : 0 ≡ 1 = sym (bit_at-zero b) ∙ ap (λ w. bit_at w b) (sym none) ∙ left in omega (arith, e))
  | inr covered ↦ covered
]
