use Rattle.std.proofs.Common.{◌≡◌, ◌+◌, arith}
use Rattle.hq_parts.proofs.Parting.{range_parts, all_parts}
use Rattle.hq_parts.proofs.parts.parts_of.Goals as goal

pub returns-in_default : goal.returns-in_default
returns-in_default c = all_parts c.args.size c.args.range

pub returns-then-more-lt-PARTS : goal.returns-then-more-lt-PARTS
returns-then-more-lt-PARTS c =
    let some = c.if-range-eq0.false in
    let last : c.in-Some.last + 1 ≡ c.args.range.at + c.args.range.len = omega (arith, c.in-Some.ensures) in
    range_parts c.args.size c.run_of_parts.result c.in-Some.last c.args.range c.requires last
    (λ k low high. c.run_of_parts.ensures k low (omega arith))

pub returns-else-more-lt-PARTS : goal.returns-else-more-lt-PARTS
returns-else-more-lt-PARTS c = all_parts c.args.size c.args.range
