use Rattle.std.proofs.Common.{arith, refl, ◌%◌, ◌+◌, get_or}
use Rattle.hq_text.proofs.DigitsRead.{one_more_digit, room_for_digit}
use Rattle.hq_text.proofs.ahead.with_digit.Goals as goal

pub overflow_mul-result : goal.overflow_mul-result
overflow_mul-result c = omega (arith, room_for_digit c.args.text.now c.args.number c.args.count 0 c.requires.so_far c.requires.few (omega arith))

pub overflow_add-result : goal.overflow_add-result
overflow_add-result c = omega (arith, room_for_digit c.args.text.now c.args.number c.args.count ((get_or c.args.text.now c.args.count 0 + 208) % 256) c.requires.so_far c.requires.few c.if-digit-gt9.false)

pub returns : goal.returns
returns c =
    one_more_digit c.args.text.now c.args.number c.args.count ((get_or c.args.text.now c.args.count 0 + 208) % 256) (get_or c.args.text.now c.args.count 0) c.requires.so_far c.requires.within c.requires.few refl (omega arith) c.if-digit-gt9.false
