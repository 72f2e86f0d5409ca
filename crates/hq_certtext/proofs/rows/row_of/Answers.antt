use Rattle.std.proofs.Common.{arith, refl}
use Rattle.hq_certtext.proofs.Placed.{one_digit, two_digits, three_are}
use Rattle.hq_certtext.proofs.rows.row_of.Goals as goal

pub returns-then-number-lt10 : goal.returns-then-number-lt10
returns-then-number-lt10 c = record { short = omega arith; word = one_digit c.args.number c.if-number-lt10.true; digits = refl }

pub returns-then-number-lt100 : goal.returns-then-number-lt100
returns-then-number-lt100 c = record { short = omega arith; word = two_digits c.args.number c.if-number-lt10.false c.if-number-lt100.true; digits = refl }

pub returns-else-number-lt100 : goal.returns-else-number-lt100
returns-else-number-lt100 c = record { short = omega arith; word = three_are c.args.number c.if-number-lt100.false c.requires; digits = refl }
