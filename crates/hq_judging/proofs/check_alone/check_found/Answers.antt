use Rattle.std.proofs.Common.{sym, ◌∙◌}
use Rattle.hq_judging.proofs.Checks.{checked_reported}
use Rattle.hq_judging.proofs.check_alone.check_found.Goals as goal

pub returns : goal.returns
returns g c cert order seen =
    let h = c.check_seen-checked.ensures cert (order ∙ sym c.order.ensures) seen in
    checked_reported c.args.known.job cert c.check_seen-checked.result _ _ c.say_checked.result h.accepted h.headline h.refused c.say_checked.ensures
