use Rattle.std.proofs.Common.{sym, refl}
use Rattle.hq_timeline.proofs.Cuts.{cut_word, last_word}
use Rattle.hq_timeline.proofs.words.first_word.Goals as goal

pub returns-in-Some : goal.returns-in-Some
returns-in-Some c = cut_word c.args.line.now c.in-Some.at _ (sym c.in-Some.ensures) refl

pub returns-in-None : goal.returns-in-None
returns-in-None c = last_word c.args.line.now (sym c.in-None.ensures)
