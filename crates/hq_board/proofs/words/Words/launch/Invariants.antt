use Rattle.hq_board.specs.declared.entry.Entry.TheVariants.{DidLaunch}
use Rattle.hq_board.proofs.words.Words.launch.Given as goal

abbrev pub ghosts-step_own : goal.ghosts-step_own
ghosts-step_own a = record { entry = λ n. DidLaunch a._packet; told = λ n. Unit {0} }
