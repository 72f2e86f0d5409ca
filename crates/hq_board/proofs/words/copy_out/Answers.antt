use Rattle.std.proofs.Common.{inl, inr, sym, arith, ap, ◌∙◌, get_or, set, length-set, refl}
use Rattle.std.proofs.lemmas.Bool.{cases_eq}
use Rattle.std.proofs.lemmas.List.{get_or-set_same, get_or-set_other}
use Rattle.std.specs.Slots.{slots_items}
use Rattle.hq_board.proofs.Opening.{index_is}
use Rattle.hq_board.proofs.words.copy_out.Goals as goal

pub loop-place-preserved : goal.loop-place-preserved
loop-place-preserved c = let i = c.loop-place.place in let xs = c.loop-place.values in let x = c.word.result in (
  length-set xs i x ∙ c.loop-place.invariant.0,
  refl,
  λ k l. elim (cases_eq k i) [
    | inl e ↦ ap (λ j. get_or (set xs i x) j 0) e ∙ get_or-set_same xs i x 0 (omega (arith, c.loop-place-test.true, c.loop-place.invariant.0)) ∙ sym (index_is (slots_items c.args.closed.now.words) i x c.word.ensures) ∙ ap (λ j. get_or (slots_items c.args.closed.now.words) j 0) (sym e)
    | inr n ↦ get_or-set_other xs i k x 0 n ∙ c.loop-place.invariant.2 k (omega (arith, l, n))
  ],
)
