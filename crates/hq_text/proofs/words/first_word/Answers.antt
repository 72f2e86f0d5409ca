use Rattle.std.proofs.Common.{sym, refl}
use Rattle.hq_text.specs.Lines.{is_space}
use Rattle.hq_text.proofs.Cuts.{cut_at, uncut}
use Rattle.hq_text.proofs.words.first_word.Goals as goal

pub returns-in-Some-clause-cut : goal.returns-in-Some-clause-cut
returns-in-Some-clause-cut c = cut_at is_space c.args.line.now 0 c.in-Some.at _ (sym c.in-Some.ensures) refl

pub returns-in-None-clause-cut : goal.returns-in-None-clause-cut
returns-in-None-clause-cut c = uncut is_space c.args.line.now (sym c.in-None.ensures)
