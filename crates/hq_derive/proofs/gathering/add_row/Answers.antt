use Rattle.std.proofs.Common.{◌≡◌, ◌*◌, ◌∙◌, inl, inr, IsTrue, Some, arith, rules, sym, subst, slice_get, slice_index_or}
use Rattle.std.proofs.lemmas.Bool.{cases_eq}
use Rattle.std.proofs.lemmas.Option.{same_Some, slice_get_within, slice_get-get_or}
use Rattle.hq_derive.specs.declared.ranks.Place.{Place}
use Rattle.hq_derive.specs.Gathered.{lines_of}
use Rattle.hq_derive.specs.Needed.{WordThere}
use Rattle.hq_derive.proofs.Growing.{word_more}
use Rattle.hq_derive.proofs.Adding.{goes_same, goes_more}
use Rattle.hq_derive.proofs.gathering.add_row.Goals as goal

pub loop-k-init : goal.loop-k-init
loop-k-init c = (goes_same c.args.before.now c.args.lines.now c.requires.kept, λ k place low is. absurd (omega (arith, low)))

pub loop-k-preserved : goal.loop-k-preserved
loop-k-preserved c =
    let old = c.loop-k.lines in
    let new = c.add_word.new.lines in
    let goes = c.in_ok-add_word.ensures.goes in
    let all : IsTrue c.in_ok-add_word.field-0 = search rules in (
      goes_more c.args.before.now c.args.lines.now old new c.loop-k.invariant.0 goes,
      λ k place below is. elim (cases_eq k c.loop-k.k) [
        | inl here ↦
            let at = c.loop-k.k in
            let none : Place = record { initial = 0; later = 0; initial_ahead = 0; later_ahead = 0 } in
            let item : Place = slice_index_or c.args.places.now at none in
            let same : item ≡ place = same_Some item place (sym (slice_get-get_or c.args.places.now at none c.loop-k-test.true) ∙ subst (λ j. slice_get c.args.places.now j ≡ Some place) here is) in
            subst (λ j. WordThere (lines_of new) c.args.p place.initial (j * 64)) (sym here)
            (subst (λ (x : Place). WordThere (lines_of new) c.args.p x.initial (at * 64)) same (c.in_ok-add_word.ensures.there all))
        | inr apart ↦ word_more (lines_of old) (lines_of new) c.args.p place.initial (k * 64) goes.grown (c.loop-k.invariant.1 k place (omega (arith, below, apart)) is)
      ],
    )

pub returns-clause-there : goal.returns-clause-there
returns-clause-there c = λ t k place is.
    let low = slice_get_within c.args.places.now k place is in
    c.loop-k.invariant.1 k place (omega (arith, low, c.loop-k-test.false)) is
