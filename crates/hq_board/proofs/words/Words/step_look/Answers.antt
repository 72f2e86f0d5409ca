use Rattle.std.proofs.Common.{arith}
use Rattle.hq_job.specs.Plan.{plan}
use Rattle.hq_board.proofs.Steps.{look}
use Rattle.hq_board.proofs.words.Words.step_look.Goals as goal

pub load-requires : goal.load-requires
load-requires g c =
    let b = c.args.self.now in
    let t = c.args.token.now in
    let near = b.fits.waits c.args.packet c.args.slot c.args.signal c.requires.signal in (
      c.requires.table,
      omega (arith, b.sized, near),
      rw b.key_is (look (plan b.job.now) b.fits b.table.shared.table_id.slots t.id t.me _ _ c.args.packet c.args.slot c.args.signal c.requires.entry c.requires.told c.requires.queue.0 c.requires.queue.1 c.requires.may c.requires.signal near),
    )
