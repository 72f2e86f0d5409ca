use Rattle.std.proofs.Common.{arith}
use Rattle.hq_job.specs.Plan.{plan}
use Rattle.hq_board.proofs.Steps.{deals_out}
use Rattle.hq_board.proofs.words.Words.deal.Goals as goal

pub split_seat-requires : goal.split_seat-requires
split_seat-requires c =
    let b = c.args.self.now in
    let t = c.args.token.now in
    (c.requires.table, omega (arith, b.sized, c.requires.dealer.1), rw b.key_is (deals_out (plan b.job.now) t.id t.me.0 c.requires.dealer.0))
