use Rattle.hq_audit.proofs.Certifying.{audited_is}
use Rattle.hq_audit.proofs.wide.audited_by.Goals as goal

pub returns : goal.returns
returns g c =
    let lines = c.in_ok-lines in
    audited_is c.args.before.now lines.lines c.args.drafts c.args.order.now _ c.requires.order c.requires.all lines.ensures.sound lines.ensures.there c.in_ok-audited.ensures
