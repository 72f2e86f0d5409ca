use Rattle.std.proofs.Common.{arith, ◌+◌}
use Rattle.hq_job.specs.Plan.{plan}
use Rattle.hq_board.proofs.Steps.{own}
use Rattle.hq_board.proofs.words.Words.step_own.Goals as goal

pub fetch_add-requires : goal.fetch_add-requires
fetch_add-requires g c =
    let b = c.args.self.now in
    let t = c.args.token.now in
    let o = c.requires.own.0 in
    let near = o.near in (
      c.requires.table,
      omega (arith, b.sized, c.requires.own.1, c.signals.ensures, near),
      rw b.key_is (own (plan b.job.now) b.fits b.table.shared.table_id.slots t.id t.me _ _ (c.signals.result + c.args.queue) c.requires.steady c.requires.told o (omega (arith, c.signals.ensures, c.requires.own.1))),
    )
