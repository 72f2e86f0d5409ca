use Rattle.std.proofs.Common.{◌-◌, ◌++◌, ℕ, List, length, get_or, sym, ◌∙◌, ap₂, arith}
use Rattle.hq_footprint.specs.declared.footprint.Range.{Range}
use Rattle.hq_model.specs.Machine.{lane_sees}
use Rattle.hq_machine.proofs.Seen.{range_listed, ranges_more, range_below}
use Rattle.hq_machine.specs.View.{state_of}
use Rattle.hq_machine.proofs.state.State.bytes_of_ranges.Goals as goal

none : Range
none = record { at = 0; len = 0 }

pub seen_range-requires-clause-range : goal.seen_range-requires-clause-range
unfolding none
seen_range-requires-clause-range c = λ some.
    let range = get_or c.args.ranges.now c.loop-range.range-index none in
    let last = range_below c.args.ranges.now c.loop-range.range-index (range.len - 1) (length c.args.self.now.copies.memory) none c.requires.ranges c.loop-range-test.true (omega (arith, some)) in
    omega (arith, some, last)

pub loop-range-preserved : goal.loop-range-preserved
unfolding none
loop-range-preserved c = λ job is.
    let f = lane_sees job (state_of job c.args.self.now) c.args.packet in
    let range = get_or c.args.ranges.now c.loop-range.range-index none in
    c.in_ok-put_behind.ensures
    ∙ ap₂ (λ (xs ys : List ℕ). xs ++ ys) (c.loop-range.invariant job is) (c.in_ok-part.ensures job is ∙ range_listed f range)
    ∙ sym (ranges_more f c.args.ranges.now c.loop-range.range-index none c.loop-range-test.true)
