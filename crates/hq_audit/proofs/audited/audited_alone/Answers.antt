use Rattle.hq_audit.proofs.Certifying.{audited_is}
use Rattle.hq_audit.proofs.audited.audited_alone.Goals as goal

pub returns-clause-is : goal.returns-clause-is
returns-clause-is c =
    let lines = c.in_ok-lines in
    audited_is c.args.before.now lines.lines c.in_ok-drafts.drafts c.args.order.now _ c.requires.order c.in_ok-drafts.ensures.all lines.ensures.sound lines.ensures.there c.in_ok-audited.ensures
