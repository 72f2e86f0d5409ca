use Rattle.hq_job.specs.Plan.{plan}
use Rattle.hq_ordercheck.proofs.Orders.{order_of, keeps_of}
use Rattle.hq_ordercheck.proofs.order.is_kept.Goals as goal

pub returns-then-each_once : goal.returns-then-each_once
returns-then-each_once c =
    let job = plan c.args.job.now in
    let valid = c.valid.ensures.valid in (
      λ t. order_of job c.args.list.now c.args.places.now c.args.turns.now valid c.requires.places c.requires.turns (c.each_once.ensures.0 c.if-each_once.true) (c.keeps_order.ensures.0 t),
      λ o. c.keeps_order.ensures.1 (keeps_of job c.args.list.now c.args.places.now c.args.turns.now valid c.requires.places c.requires.turns o),
    )
