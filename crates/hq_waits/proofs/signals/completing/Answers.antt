use Rattle.std.proofs.Common.{◌≡◌, ◌+◌, ◌∷◌, [], sym, subst, length, ◌∙◌, ap, length-append}
use Rattle.hq_job.specs.Plan.{plan}
use Rattle.hq_rows.specs.Lists.{AllAre}
use Rattle.hq_waits.specs.Waits.{Completing}
use Rattle.hq_rows.proofs.Lists.{all_push}
use Rattle.hq_waits.proofs.signals.completing.Goals as goal

pub loop-signal-preserved : goal.loop-signal-preserved
loop-signal-preserved c = record {
  rows = subst (AllAre (λ s row. Completing (plan c.args.job.now) s row.items × (length row.items ≡ c.args.words))) (sym c.in_ok-push.ensures.items)
      (all_push (λ s row. Completing (plan c.args.job.now) s row.items × (length row.items ≡ c.args.words)) c.loop-signal.rows.items c.in_ok-completing_row.field-0 c.loop-signal.signal c.loop-signal.invariant.rows c.loop-signal.invariant.count (c.in_ok-completing_row.ensures.row, c.in_ok-completing_row.ensures.len));
  count = ap length c.in_ok-push.ensures.items ∙ length-append c.loop-signal.rows.items (c.in_ok-completing_row.field-0 ∷ []) ∙ ap (λ n. n + 1) c.loop-signal.invariant.count;
}
