use Rattle.std.proofs.Common.{◌≡◌, ◌+◌, ◌*◌, ◌<◌, min, length, arith, rules}
use Rattle.hq_order.proofs.Stepping.{front_of, back_of}
use Rattle.hq_order.proofs.wide.+parts.Goals as goal

pub join_mut-requires-after_bounds : goal.join_mut-requires-after_bounds
join_mut-requires-after_bounds g t c κs within =
    let known = c.args.known.now in
    let rows = c.args.rows.now in
    let own = c.split_at_mut-own.result.0.now in
    let others = c.split_at_mut-own.result.1.now in
    let count = c.min-count.result in
    let is = c.split_at_mut-own.ensures in
    let least : count ≡ min c.args.many (length rows) = search rules in
    let some : 0 < length rows = search rules in
    let fall : 2 * length others + 1 < t = omega (arith, least, some, c.requires.some, is.back_len, c.decreases) in (
      (c.requires.can, front_of known c.args.first rows own others is.value c.requires.copies),
      (fall, ((λ a m. m), (c.requires.some, c.requires.can, back_of known c.args.first count rows own others is.value is.front_len c.requires.copies))),
    )
