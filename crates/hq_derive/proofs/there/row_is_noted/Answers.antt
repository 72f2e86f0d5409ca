use Rattle.std.proofs.Common.{◌≡◌, ◌+◌, ◌*◌, ◌/◌, ◌%◌, inl, inr, ap, sym, ◌∙◌, subst, arith, slice_index}
use Rattle.std.specs.Int.{bit_at}
use Rattle.std.proofs.lemmas.Bool.{cases_lt, eqb-true}
use Rattle.hq_bits.proofs.Words.{within}
use Rattle.hq_derive.specs.Gathered.{IsPlaceOf}
use Rattle.hq_derive.proofs.Noting.{none_left, noted_at}
use Rattle.hq_derive.proofs.there.row_is_noted.Goals as goal

pub loop-place-preserved : goal.loop-place-preserved
loop-place-preserved c =
    let p = c.args.p in
    let place = c.loop-place.place in
    let needed = c.args.needed.now in
    let noted = c.args.noted.now in
    λ r below h. elim (cases_lt (r / 64) place) [
      | inl early ↦ c.loop-place.invariant r early h
      | inr from ↦
          let bit = r % 64 in
          let here : r / 64 ≡ place = omega (arith, below, from) in
          let one : bit_at (slice_index needed place) bit ≡ 1 = ap (λ k. bit_at (slice_index needed k) bit) (sym here) ∙ eqb-true (bit_at (slice_index needed (r / 64)) bit) 1 h in
          elim (c.later_of-later.ensures bit one) [
            | inl later ↦ inr (
              omega (arith, within needed r h, c.requires.few),
              noted_at noted.bits.items p r
                  (subst (λ k. bit_at (slice_index noted.bits.items (p * 16 + k)) bit ≡ 1) (sym here)
                  (ap (λ word. bit_at word bit) (sym c.word.ensures) ∙ none_left c.less.result c.later_of-later.result c.word.result bit c.if-less-ne0.false (c.less.ensures bit) later)),
            )
            | inr x ↦ inl (x.0, subst (λ k. IsPlaceOf c.args.ranks.now p k x.0) (sym here) ((c.row-places.ensures.places place x.0).0 x.1), x.2)
          ]
    ]

pub returns : goal.returns
returns c = λ t r h.
    let low = within c.args.needed.now r h in
    c.loop-place.invariant r (omega (arith, low, c.loop-place-test.false)) h
