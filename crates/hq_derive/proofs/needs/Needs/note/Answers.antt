use Rattle.std.proofs.Common.{◌≡◌, ◌+◌, ◌*◌, ◌%◌, ◌^◌, ◌<◌, IsTrue, length, sym, subst, rules, slice_index, slice_set, bit_or}
use Rattle.hq_bits.specs.Bits.{has}
use Rattle.hq_derive.proofs.Noting.{has_still, has_noted, noted_only}
use Rattle.hq_derive.proofs.needs.Needs.note.Goals as goal

pub returns-in-Some-clause-still : goal.returns-in-Some-clause-still
returns-in-Some-clause-still c = λ n h.
    let row = c.args.self.now.bits.items in
    let k = c.place_of.result in
    let w = 1 * 2 ^ (c.args.r % 64) % 2 ^ 64 in
    let at : c.in-Some.word.now ≡ slice_index row k = search rules in
    let low : k < length row = search rules in
    subst (λ word. IsTrue (has (slice_set row k (bit_or word w)) n)) (sym at) (has_still row k w n low h)

pub returns-in-Some-clause-noted : goal.returns-in-Some-clause-noted
returns-in-Some-clause-noted c = λ first second room.
    let row = c.args.self.now.bits.items in
    let k = c.place_of.result in
    let at : c.in-Some.word.now ≡ slice_index row k = search rules in
    let low : k < length row = search rules in
    subst (λ word. IsTrue (has (slice_set row k (bit_or word (1 * 2 ^ (c.args.r % 64) % 2 ^ 64))) (c.args.p * 1024 + c.args.r))) (sym at)
    (has_noted row k c.args.p c.args.r (c.place_of.ensures first second) low)

pub returns-in-Some-clause-only : goal.returns-in-Some-clause-only
returns-in-Some-clause-only c = λ first second n h.
    let row = c.args.self.now.bits.items in
    let k = c.place_of.result in
    let at : c.in-Some.word.now ≡ slice_index row k = search rules in
    let low : k < length row = search rules in
    noted_only row k c.args.p c.args.r n (c.place_of.ensures first second) low
    (subst (λ word. IsTrue (has (slice_set row k (bit_or word (1 * 2 ^ (c.args.r % 64) % 2 ^ 64))) n)) at h)
