use Rattle.std.proofs.Common.{◌*◌, ◌∙◌, ap, arith, take, drop}
use Rattle.hq_job.specs.Plan.{plan}
use Rattle.hq_waits.proofs.Completions.{row_is}
use Rattle.hq_waits.proofs.Packets.{packets_count}
use Rattle.hq_waits.proofs.signals.completing_row.Goals as goal

pub returns-clause-row : goal.returns-clause-row
returns-clause-row c = row_is (plan c.args.job.now) c.args.words c.args.signal c.args.rows.now c.in_ok-row.row.items (omega (arith, c.requires.room, packets_count c.args.job.now)) c.requires.marked
    (c.in_ok-row.ensures.items_if_clones_equal (λ y e h. h) ∙ ap (λ n. take n (drop (c.args.signal * c.args.words) c.args.rows.now)) (omega arith))
