use Rattle.std.proofs.Common.{arith}
use Rattle.hq_job.specs.Plan.{plan}
use Rattle.hq_board.proofs.Steps.{down}
use Rattle.hq_board.proofs.words.Words.step_down.Goals as goal

pub fetch_sub-requires : goal.fetch_sub-requires
fetch_sub-requires g c =
    let b = c.args.self.now in
    let t = c.args.token.now in (
      c.requires.table,
      omega (arith, b.sized, c.requires.signal.1),
      rw b.key_is (down (plan b.job.now) b.fits b.table.shared.table_id.slots t.id t.me _ _ c.args.packet c.args.signal c.requires.entry c.requires.told c.requires.queue.0 c.requires.queue.1 c.requires.signal.0 c.requires.signal.1 c.requires.may),
    )
