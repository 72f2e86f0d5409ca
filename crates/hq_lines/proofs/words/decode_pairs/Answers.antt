use Rattle.std.proofs.Common.{◌≡◌, ℕ, ◌+◌, ◌*◌, ◌<◌, ◌≤◌, ◌&&◌, List, length, slice_index, slice_set, unwrap_or, ap, subst, ◌∙◌, arith}
use Rattle.hex.specs.Hex.{hex_digit_value}
use Rattle.hq_lines.proofs.Pairs.{DecodesTo, decodes_more, decodes_all}
use Rattle.hq_lines.proofs.words.decode_pairs.Goals as goal

pub loop-i-preserved : goal.loop-i-preserved
loop-i-preserved c =
    let digits : List ℕ = c.args.digits.now in
    let at : ℕ = c.loop-bytes.done + c.loop-i.i in
    let value : ℕ → ℕ = λ n. unwrap_or (hex_digit_value (slice_index digits n)) 255 in
    let values : List ℕ = c.values_from-values.result in
    let high : slice_index values (2 * c.loop-i.i) ≡ value (2 * at) = c.values_from-values.ensures (2 * c.loop-i.i) (omega (arith, c.loop-i-test.true)) ∙ ap value (omega arith) in
    let low : slice_index values (2 * c.loop-i.i + 1) ≡ value (2 * at + 1) = c.values_from-values.ensures (2 * c.loop-i.i + 1) (omega (arith, c.loop-i-test.true)) ∙ ap value (omega arith) in
    let long : length c.loop-i.bytes ≡ length c.args.bytes.now = omega (arith, c.loop-i.auto.bytes, c.loop-bytes.auto.bytes) in
    let room : at < length c.loop-i.bytes = omega (arith, long, c.loop-i-test.true, c.loop-bytes-test.true, c.loop-bytes.auto.bytes) in
    let more = decodes_more digits c.loop-i.bytes at _ _ c.byte_of.result c.loop-i.fine (c.loop-i.fine && c.are_digits-fine.result) c.loop-i.invariant (omega (arith, room, long, c.requires)) room high low
    (ap (λ b. c.loop-i.fine && b) c.are_digits-fine.ensures) c.byte_of.ensures in
    let next : at + 1 ≡ c.loop-bytes.done + (c.loop-i.i + 1) = omega arith in
    subst (λ n. DecodesTo digits (slice_set c.loop-i.bytes at c.byte_of.result) n (c.loop-i.fine && c.are_digits-fine.result)) next more

pub loop-i-2-preserved : goal.loop-i-2-preserved
loop-i-2-preserved c =
    let high = c.digit_value-high.result in
    let low = c.digit_value-low.result in
    let fine = c.loop-i-2.fine && c.are_digits-fine-in-loop-i-2.result in
    let long : length c.loop-i-2.bytes ≡ length c.args.bytes.now = omega (arith, c.loop-i-2.auto.bytes, c.loop-bytes.auto.bytes) in
    let room : c.loop-i-2.i < length c.loop-i-2.bytes = omega (arith, c.loop-i-2-test.true, c.loop-i-2.auto.bytes) in
    decodes_more c.args.digits.now c.loop-i-2.bytes c.loop-i-2.i high low c.byte_of-in-loop-i-2.result c.loop-i-2.fine fine c.loop-i-2.invariant (omega (arith, room, long, c.requires)) room c.digit_value-high.ensures c.digit_value-low.ensures
    (ap (λ b. c.loop-i-2.fine && b) c.are_digits-fine-in-loop-i-2.ensures) c.byte_of-in-loop-i-2.ensures

pub returns : goal.returns
returns c =
    let long : length c.loop-i-2.bytes ≡ length c.args.bytes.now = omega (arith, c.loop-i-2.auto.bytes, c.loop-bytes.auto.bytes) in
    let end : length c.loop-i-2.bytes ≤ c.loop-i-2.i = omega (arith, c.loop-i-2-test.false, c.loop-i-2.auto.bytes) in
    decodes_all c.args.digits.now c.loop-i-2.bytes c.loop-i-2.i c.loop-i-2.fine c.loop-i-2.invariant end (omega (arith, end, long, c.requires))
