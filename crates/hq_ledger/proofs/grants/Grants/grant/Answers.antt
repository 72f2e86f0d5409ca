use Rattle.std.proofs.Common.{subst}
use Rattle.hq_ledger.specs.Grants.{IsClear}
use Rattle.hq_ledger.proofs.Clear.{apart_pushed}
use Rattle.hq_ledger.proofs.grants.Grants.grant.Goals as goal

pub invariant_of-self : goal.invariant_of-self
invariant_of-self c = rw c.push.ensures.items (apart_pushed _ _ _ c.self.invariant (subst (λ out. IsClear out (record { packet = c.args.packet; foot = c.args.foot.now })) c.deref.ensures.value c.in_default.ensures))
