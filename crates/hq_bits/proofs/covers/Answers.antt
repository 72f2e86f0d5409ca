use Rattle.std.proofs.Common.{◌^◌, ◌<◌, refl, arith, slice_index}
use Rattle.hq_bits.proofs.Cover.{covers_all, word_covered}
use Rattle.hq_bits.proofs.covers.Goals as goal

pub returns : goal.returns
returns c = (λ t. covers_all c.args.row.now c.args.other.now c.loop-i.i c.requires (omega arith) c.loop-i.invariant, λ h. refl)

pub returns-then-word-other : goal.returns-then-word-other
returns-then-word-other c =
    let fits : slice_index c.args.other.now c.loop-i.i < 2 ^ 64 = omega (arith, c.type_inv.other c.loop-i.i) in
    (λ e. let never : ⊥ = cc in absurd never, λ h. absurd (c.if-word-other.true (word_covered c.args.row.now c.args.other.now c.loop-i.i fits h)))
