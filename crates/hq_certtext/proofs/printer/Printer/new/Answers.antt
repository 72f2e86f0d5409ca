use Rattle.hq_certtext.proofs.Puts.{nothing_put}
use Rattle.hq_certtext.proofs.printer.Printer.new.Goals as goal

pub returns-clause-empty : goal.returns-clause-empty
returns-clause-empty c = λ w. nothing_put w
