use Rattle.std.proofs.Common.{◌<◌, ◌^◌, ◌/◌, arith, slice_index}
use Rattle.hq_bits.proofs.First.{bit_is_low, in_first_word, none_first}
use Rattle.hq_bits.proofs.first_from.Goals as goal

pub overflow_add-result : goal.overflow_add-result
overflow_add-result c =
    let found = rw c.word_at.ensures at c.in-Some.ensures in
    let small : slice_index c.args.row.now (c.args.from / 64) < 2 ^ 64 = omega (arith, c.word_at.ensures, c.word_at.type_inv) in
    omega (arith, bit_is_low c.args.row.now c.args.from c.in-Some.bit small found.1, c.ranges.from.fits)

pub returns-in-Some : goal.returns-in-Some
returns-in-Some c =
    let found = rw c.word_at.ensures at c.in-Some.ensures in
    let small : slice_index c.args.row.now (c.args.from / 64) < 2 ^ 64 = omega (arith, c.word_at.ensures, c.word_at.type_inv) in
    in_first_word c.args.row.now c.args.from c.in-Some.bit small found.1 found.2

pub loop-place-init : goal.loop-place-init
loop-place-init c = record { behind = omega arith; none = none_first c.args.row.now c.args.from (rw c.word_at.ensures at c.in_default.ensures) }
