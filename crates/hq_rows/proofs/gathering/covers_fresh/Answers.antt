use Rattle.std.proofs.Common.{◌≡◌, ◌+◌, ◌*◌, ◌/◌, ◌%◌, ◌<◌, ◌&&◌, not, inl, inr, sym, ◌∙◌, ap, subst, arith, length}
use Rattle.std.specs.Int.{bit_at}
use Rattle.std.proofs.lemmas.Bool.{cases_lt, eqb-true}
use Rattle.hq_bits.specs.Bits.{has}
use Rattle.hq_bits.proofs.Words.{and_both, within}
use Rattle.hq_rows.specs.Matrix.{Marks}
use Rattle.hq_rows.specs.Uniting.{is_fresh}
use Rattle.hq_rows.proofs.gathering.covers_fresh.Goals as goal

pub loop-place-preserved : goal.loop-place-preserved
loop-place-preserved c = λ m p below marked fresh.
    let set = c.args.set.now in
    let place = c.loop-place.place in
    let is = is_fresh set c.args.earlier.now c.args.known.now.renewed.now in
    elim (cases_lt (m / 64) place) [
      | inl early ↦ c.loop-place.invariant m p early marked fresh
      | inr from ↦
          let bit = m % 64 in
          let here : place * 64 + bit ≡ m = omega (arith, below, from) in
          let low : bit < 64 = omega arith in
          let one : bit_at c.fresh_word-word.result bit ≡ 1 = eqb-true (bit_at c.fresh_word-word.result bit) 1 (c.fresh_word-word.ensures bit low ∙ ap is here ∙ fresh) in
          c.covers_each.ensures c.if-not-covers_each.false bit p low one (subst (Marks c.args.known.now.rows.now p) (sym here) marked)
    ]

pub returns : goal.returns
returns c = λ t m p marked fresh.
    let set = c.args.set.now in
    let there : m / 64 < length set = within set m ((and_both (has set m) (not (has c.args.earlier.now m && not (has c.args.known.now.renewed.now m)))).0 fresh).0 in
    c.loop-place.invariant m p (omega (arith, there, c.loop-place-test.false)) marked fresh
