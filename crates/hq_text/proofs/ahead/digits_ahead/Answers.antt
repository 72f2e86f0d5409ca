use Rattle.std.proofs.Common.{arith, refl, ◌%◌, ◌+◌, get_or}
use Rattle.hq_text.proofs.DigitsRead.{first_digit}
use Rattle.hq_text.proofs.ahead.digits_ahead.Goals as goal

pub digits_on-requires-clause-so_far : goal.digits_on-requires-clause-so_far
digits_on-requires-clause-so_far c =
    let digit = (get_or c.args.text.now 0 0 + 208) % 256 in
    first_digit c.args.text.now digit (get_or c.args.text.now 0 0) c.requires refl (omega arith) (omega arith) (omega arith)
