use Rattle.std.proofs.Common.{◌<◌, length, arith}
use Rattle.hq_audit.specs.Refused.{IsFirstUnshown}
use Rattle.hq_audit.proofs.Turning.{rows_next, handed_on}
use Rattle.hq_audit.proofs.verdicts.all_shown.Goals as goal

pub loop-a-preserved : goal.loop-a-preserved
loop-a-preserved c = record { shown = rows_next c.args.before.now c.loop-a.a c.loop-a.invariant.shown c.in_ok-row_shown.ensures.shown }

pub returns-clause-shown : goal.returns-clause-shown
returns-clause-shown c = λ q s above is.
    let over = c.loop-a-test.false in
    let count = c.len-a-end.ensures in
    let low : s < length c.args.before.now.packets = is in
    c.loop-a.invariant.shown q s (omega arith) above is

pub returns-in_err-row_shown-clause-unshown : goal.returns-in_err-row_shown-clause-unshown
returns-in_err-row_shown-clause-unshown c =
    handed_on (IsFirstUnshown c.args.before.now) c.from_residual.result c.in_err-row_shown.field-0.0 c.from_residual.ensures.1
    (record { a = c.loop-a.a; row = c.in_err-row_shown.ensures.unshown; rows = c.loop-a.invariant.shown })
