use Rattle.std.proofs.Common.{◌≡◌, ◌+◌, ◌<◌, length, sym, ◌∙◌, arith, Some, slice_get, slice_index_or}
use Rattle.std.proofs.lemmas.Option.{slice_get-get_or}
use Rattle.hq_derive.specs.declared.short.Short.{Short}
use Rattle.hq_derive.proofs.Middles.{blank, through_by}
use Rattle.hq_derive.proofs.through.is_through.Goals as goal

pub returns-then-middle-from : goal.returns-then-middle-from
returns-then-middle-from c = λ is.
    let ahead = c.args.ahead.now in
    let shorts = c.args.shorts.now in
    let k = c.args.k in
    let s : Short = slice_index_or shorts k blank in
    let at : slice_get shorts k ≡ Some s = slice_get-get_or shorts k blank c.requires.k_is in
    let of = c.is_of.ensures is in
    let long : c.len.result ≡ length ahead = c.len.ensures.is in
    let first : c.first.result < length ahead + k = omega (arith, long, c.if-first-number.false) in
    let second : c.second.result < length ahead + k = omega (arith, long, c.if-second-number.false) in
    through_by ahead shorts k s c.first.result c.second.result c.in-Some.p c.in-Some.middle c.in-Some-packets_of.from c.in-Some-packets_of.r at (sym c.form.ensures ∙ c.if-form-ne-THROUGH.false)
    c.first.ensures c.second.ensures of.0 of.1 c.if-middle-from.true
    (c.in-Some.ensures (length ahead + k) first) (c.in-Some-packets_of.ensures (length ahead + k) second)
