use Rattle.std.proofs.Common.{length, sym, ◌∙◌, ap}
use Rattle.hq_job.specs.Plan.{plan}
use Rattle.hq_rows.proofs.Rows.{given_back}
use Rattle.hq_order.proofs.Swept.{all_asked}
use Rattle.hq_order.proofs.sweeping.asked_row.Goals as goal

pub returns-clause-asked : goal.returns-clause-asked
returns-clause-asked c =
    let v = c.in_ok-row.row in
    let first = given_back v.len v.items c.unite_ahead.new.row (sym v.ok.0) (c.unite_ahead.auto.row ∙ ap length c.deref_mut.ensures.value) in
    let ahead = c.deref_mut-2.ensures.value ∙ first in
    let second = given_back v.len _ c.unite_waits.new.row (ap length first ∙ c.unite_ahead.auto.row ∙ ap length c.deref_mut.ensures.value ∙ sym v.ok.0) (c.unite_waits.auto.row ∙ ap length c.deref_mut-2.ensures.value) in
    all_asked (plan c.args.job.now) c.args.rows.now c.args.r c.unite_ahead.new.row c.deref_mut-2.result.now c.unite_waits.new.row _ ahead second
    c.unite_ahead.ensures.ahead c.unite_ahead.ensures.queue c.unite_ahead.ensures.bit c.in_ok-unite_waits.ensures.kept c.in_ok-unite_waits.ensures.ands c.in_ok-unite_waits.ensures.ors
