use Rattle.std.proofs.Common.{IsTrue, ◌↔◌, sym, subst}
use Rattle.hq_audit.specs.Refused.{ShownOneWay}
use Rattle.hq_explain.proofs.Trying.{ok_is_one_way}
use Rattle.hq_explain.proofs.scopes.is_ordered.Goals as goal

pub returns : goal.returns
returns c =
    subst (λ o. IsTrue o ↔ ShownOneWay c.args.before.now c.args.a c.args.b) (sym c.is_ok.ensures.value)
    (ok_is_one_way c.args.before.now c.args.a c.args.b c.direct.result c.direct.ensures)
