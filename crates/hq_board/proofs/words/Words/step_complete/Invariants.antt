use Rattle.hq_board.specs.declared.entry.Entry.TheVariants.{DidComplete}
use Rattle.hq_board.proofs.words.Words.step_complete.Given as goal

abbrev pub ghosts-step_own : goal.ghosts-step_own
ghosts-step_own a = record { entry = λ n. DidComplete a._packet; told = λ n. Unit {0} }

abbrev pub ghosts-step_down : goal.ghosts-step_down
ghosts-step_down a = record { entry = λ n. DidComplete a.packet; told = λ n. Unit {0} }
