use Rattle.hq_text.specs.Lines.{lines_of}
use Rattle.hq_certread.proofs.LetGo.{took_all, fault_all}
use Rattle.hq_certread.proofs.progress.ProgressTakesLines.take_lines.Goals as goal

pub returns-clause-took : goal.returns-clause-took
returns-clause-took c = took_all c.take.result c.args.self.now c.take.new.self (lines_of c.args.text.now) c.take.ensures.taken

pub returns-clause-fault : goal.returns-clause-fault
returns-clause-fault c = fault_all c.take.result c.args.self.now (lines_of c.args.text.now) c.take.ensures.fault
