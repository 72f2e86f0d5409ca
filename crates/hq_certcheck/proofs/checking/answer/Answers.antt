use Rattle.std.proofs.Common.{subst, sym, refl, ◌∙◌}
use Rattle.hq_job.specs.Plan.{plan}
use Rattle.hq_model.specs.Order.{OrderList}
use Rattle.hq_certcheck.proofs.Refusing.{accepted_is, refused_is}
use Rattle.hq_certcheck.proofs.checking.answer.Goals as goal

pub of-requires-clause-ordered : goal.of-requires-clause-ordered
of-requires-clause-ordered c =
    let s = c.requires.seen in
    c.certificates_order.ensures (plan c.args.job) s.0 c.valid.ensures.valid (c.in-Ok.ensures.ok s.0 s.1 s.2).0

pub of-requires-clause-list : goal.of-requires-clause-list
of-requires-clause-list c =
    let s = c.requires.seen in
    let h = c.in-Ok.ensures.ok s.0 s.1 s.2 in
    subst (OrderList (plan c.args.job)) (sym h.1) h.0.order

pub returns-in-Ok : goal.returns-in-Ok
returns-in-Ok c d order seen =
    let job = plan c.args.job in
    let h = c.in-Ok.ensures.ok d order seen in
    let same = c.of.ensures.order ∙ h.1 in
    let ordered = c.certificates_order.ensures job d c.valid.ensures.valid h.0 in
    accepted_is c.args.job d c.of.result h.0 ordered (c.order_lists_extend.ensures job c.of.result.order (subst (OrderList job) (sym same) h.0.order))
    (c.headline_law.ensures job c.valid.ensures.valid ordered) c.of.ensures.job same

pub returns-in-Err : goal.returns-in-Err
returns-in-Err c d order seen = refused_is c.args.job c.args.job d c.in-Err.no refl (c.in-Err.ensures.refused d order seen)
