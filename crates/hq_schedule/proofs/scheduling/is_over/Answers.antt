use Rattle.std.proofs.Common.{◌≡◌, ap, subst, length, sym, ◌∙◌, IsTrue}
use Rattle.hq_job.specs.Plan.{plan}
use Rattle.hq_bits.specs.Bits.{has}
use Rattle.hq_waits.specs.Waits.{Completing}
use Rattle.hq_rows.proofs.Lists.{one_is}
use Rattle.hq_schedule.proofs.scheduling.is_over.Goals as goal

pub covers-requires : goal.covers-requires
covers-requires c =
    let row = one_is (λ s set. Completing (plan c.args.job.now) s set.items × (length set.items ≡ length c.args.come.now)) c.args.completing.now c.args.signal c.index-completing-signal.result c.requires.completing c.requires.low c.index-completing-signal.is in
    sym row.1 ∙ ap length (sym c.deref.ensures.value)

pub returns : goal.returns
returns c =
    let row = one_is (λ s set. Completing (plan c.args.job.now) s set.items × (length set.items ≡ length c.args.come.now)) c.args.completing.now c.args.signal c.index-completing-signal.result c.requires.completing c.requires.low c.index-completing-signal.is in (
      λ t d f. c.covers.ensures.0 t d (subst (λ r. IsTrue (has r d)) (sym c.deref.ensures.value) ((row.0.are d).1 f)),
      λ over. c.covers.ensures.1 (λ d h. over d ((row.0.are d).0 (subst (λ r. IsTrue (has r d)) c.deref.ensures.value h))),
    )
