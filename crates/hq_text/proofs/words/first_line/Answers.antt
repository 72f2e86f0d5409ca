use Rattle.std.proofs.Common.{sym, refl}
use Rattle.hq_text.proofs.Cuts.{cut_line, last_line}
use Rattle.hq_text.proofs.words.first_line.Goals as goal

pub returns-in-Some-clause-cut : goal.returns-in-Some-clause-cut
returns-in-Some-clause-cut c = cut_line c.args.text.now c.in-Some.at _ (sym c.in-Some.ensures) refl

pub returns-in-None-clause-cut : goal.returns-in-None-clause-cut
returns-in-None-clause-cut c = last_line c.args.text.now _ (sym c.in-None.ensures) c.requires
