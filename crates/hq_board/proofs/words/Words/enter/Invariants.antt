use Rattle.hq_board.specs.declared.entry.Entry.TheVariants.{DidEnter}
use Rattle.hq_board.proofs.words.Words.enter.Given as goal

abbrev pub ghosts-step_own : goal.ghosts-step_own
ghosts-step_own a = record { entry = λ n. DidEnter a._packet; told = λ n. Unit {0} }
