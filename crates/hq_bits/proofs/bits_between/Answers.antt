use Rattle.std.proofs.Common.{◌∙◌, ap, inl, inr}
use Rattle.std.specs.Int.{bit_at}
use Rattle.std.proofs.lemmas.Nat.Bits.{bit_at_mask_above, bit_at_mask_below, bit_at_mask_inside}
use Rattle.hq_bits.proofs.Sets.{mask_is, powers_in_order}
use Rattle.hq_bits.proofs.bits_between.Goals as goal

pub overflow_sub-result : goal.overflow_sub-result
overflow_sub-result c = powers_in_order c.args.from c.args.to c.requires.order c.requires.few

pub returns-clause-inside : goal.returns-clause-inside
returns-clause-inside c = λ i above below. ap (λ w. bit_at w i) (mask_is c.args.from c.args.to c.requires.order c.requires.few) ∙ bit_at_mask_inside c.args.from c.args.to i above below

pub returns-clause-outside : goal.returns-clause-outside
returns-clause-outside c = λ i out. ap (λ w. bit_at w i) (mask_is c.args.from c.args.to c.requires.order c.requires.few) ∙ elim out [
  | inl below ↦ bit_at_mask_below c.args.from c.args.to i below
  | inr above ↦ bit_at_mask_above c.args.from c.args.to i above
]
