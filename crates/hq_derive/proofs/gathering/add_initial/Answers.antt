use Rattle.std.proofs.Common.{◌+◌, ◌*◌, inl, inr, IsTrue, arith, rules, subst, sym}
use Rattle.std.proofs.lemmas.Bool.{cases_eq}
use Rattle.std.proofs.lemmas.Option.{slice_get_within}
use Rattle.hq_derive.specs.Gathered.{lines_of, IsPlaceOf}
use Rattle.hq_derive.specs.Needed.{WordThere}
use Rattle.hq_derive.proofs.Growing.{word_more}
use Rattle.hq_derive.proofs.Adding.{goes_same, goes_more}
use Rattle.hq_derive.proofs.gathering.add_initial.Goals as goal

pub loop-p-init : goal.loop-p-init
loop-p-init c = (goes_same c.args.before.now c.args.lines.now c.requires, λ p k place low is. absurd (omega (arith, low)))

pub loop-p-preserved : goal.loop-p-preserved
loop-p-preserved c =
    let old = c.loop-p.lines in
    let new = c.add_row.new.lines in
    let goes = c.in_ok-add_row.ensures.goes in
    let all : IsTrue c.in_ok-add_row.field-0 = search rules in (
      goes_more c.args.before.now c.args.lines.now old new c.loop-p.invariant.0 goes,
      λ p k place below is. elim (cases_eq p c.loop-p.p) [
        | inl here ↦ subst (λ q. WordThere (lines_of new) q place.initial (k * 64)) (sym here)
            (c.in_ok-add_row.ensures.there all k place ((c.row.ensures.places k place).1 (subst (λ q. IsPlaceOf c.args.ranks.now q k place) here is)))
        | inr apart ↦ word_more (lines_of old) (lines_of new) p place.initial (k * 64) goes.grown (c.loop-p.invariant.1 p k place (omega (arith, below, apart)) is)
      ],
    )

pub returns : goal.returns
returns c = record {
  goes = c.loop-p.invariant.0;
  there = λ p k place is.
      let low = slice_get_within c.args.ranks.now.numbers.items p (is.1.number + 1) is.1.numbered in
      c.loop-p.invariant.1 p k place (omega (arith, low, c.loop-p-test.false)) is;
}
