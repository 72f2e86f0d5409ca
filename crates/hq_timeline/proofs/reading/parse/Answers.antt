use Rattle.hq_text.specs.Lines.{lines_of}
use Rattle.hq_timeline.proofs.Faults.{text_only, read_found_of, read_fault_of}
use Rattle.hq_timeline.proofs.reading.parse.Goals as goal

pub returns-clause-found : goal.returns-clause-found
returns-clause-found c = read_found_of c.read_all.result (lines_of c.args.text.now) c.read_all.ensures

pub returns-clause-only : goal.returns-clause-only
returns-clause-only c events h = text_only c.read_all.result (lines_of c.args.text.now) events c.read_all.ensures h

pub returns-clause-fault : goal.returns-clause-fault
returns-clause-fault c = read_fault_of c.read_all.result (lines_of c.args.text.now) c.read_all.ensures
