use Rattle.std.proofs.Common.{◌+◌, subst, sym, arith}
use Rattle.hq_ordercheck.proofs.Orders.{IsLeast, least_falls, least_stays, least_all}
use Rattle.hq_ordercheck.proofs.rings.least_from.Goals as goal
use Rattle.hq_ordercheck.proofs.rings.least_from.Goals.{then-turns-m+then-places-r, else-turns-m, else-turns-m-via-then-turns-m+else-places-r, else-turns-m-via-else-turns-m}

pub loop-r-preserved : goal.loop-r-preserved
loop-r-preserved c =
    let turns = c.args.turns.now in
    let places = c.args.places.now in
    elim c.if-turns-m.branch [
      | then-turns-m+then-places-r w ↦
          subst (IsLeast turns places c.args.m (c.loop-r.r + 1)) (sym w.least-is) (least_falls turns places c.args.m c.loop-r.r c.loop-r.least c.loop-r.invariant w.if-turns-m.true w.if-places-r.true)
      | else-turns-m w ↦
          subst (IsLeast turns places c.args.m (c.loop-r.r + 1)) (sym w.least-is) (least_stays turns places c.args.m c.loop-r.r c.loop-r.least c.loop-r.invariant
          (λ t. elim w.else-turns-m.branch [
            | else-turns-m-via-then-turns-m+else-places-r v ↦ v.if-places-r.false
            | else-turns-m-via-else-turns-m v ↦ absurd (omega (arith, t, v.if-turns-m.false))
          ]))
    ]

pub returns : goal.returns
returns c = least_all c.args.turns.now c.args.places.now c.args.m c.loop-r.r c.loop-r.least c.loop-r.invariant c.requires.m_is c.loop-r-test.false c.loop-r.auto.r-end
