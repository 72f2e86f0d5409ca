use Rattle.std.proofs.Common.{inl, inr, sym, subst, arith, bit_or, slice_index_or}
use Rattle.std.proofs.lemmas.Bool.{cases_eq}
use Rattle.std.proofs.lemmas.List.{get_or_default}
use Rattle.hq_parts.specs.Parts.{HasRange}
use Rattle.hq_parts.proofs.Parting.{range_left, range_right}
use Rattle.hq_parts.proofs.parts.parts_over.Goals as goal

pub loop-range-preserved : goal.loop-range-preserved
loop-range-preserved c = λ k d l.
    let old = c.loop-range.parts in
    let own = c.parts_of-parts.result in
    elim (cases_eq k c.loop-range.range-index) [
      | inl e ↦ subst (λ j. HasRange c.args.size (bit_or old own) (slice_index_or c.args.ranges.now j d)) (sym e)
          (subst (HasRange c.args.size (bit_or old own)) (get_or_default c.args.ranges.now c.loop-range.range-index (record { at = 0; len = 0 }) d c.loop-range-test.true)
          (range_right c.args.size old own (slice_index_or c.args.ranges.now c.loop-range.range-index (record { at = 0; len = 0 })) c.parts_of-parts.ensures))
      | inr other ↦ range_left c.args.size old own (slice_index_or c.args.ranges.now k d) (c.loop-range.invariant k d (omega arith))
    ]

pub returns : goal.returns
returns c = λ k d l. let n = c.loop-range-test.false in c.loop-range.invariant k d (omega arith)
