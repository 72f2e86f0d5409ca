use Rattle.std.proofs.Common.{◌≡◌}
use Rattle.hq_job.specs.Plan.{plan}
use Rattle.hq_board.specs.Rule.{IsSettled, seen}
use Rattle.hq_board.proofs.words.Words.observe.Given as goal

abbrev pub ghosts-step_look : goal.ghosts-step_look
ghosts-step_look a = record { entry = λ n. seen a.packet a.slot n; told = λ n. IsSettled (plan a.self.now.job.now) a.token.now.me.0 a.signal → n ≡ 0 }
