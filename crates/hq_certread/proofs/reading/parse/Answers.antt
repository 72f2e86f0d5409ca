use Rattle.hq_text.specs.Lines.{lines_of}
use Rattle.hq_certread.proofs.Wholes.{text_only, read_found_of, read_fault_of}
use Rattle.hq_certread.proofs.reading.parse.Goals as goal

pub returns-clause-found : goal.returns-clause-found
returns-clause-found c = read_found_of c.read_all.result (lines_of c.args.text.now) c.read_all.ensures

pub returns-clause-fault : goal.returns-clause-fault
returns-clause-fault c = read_fault_of c.read_all.result (lines_of c.args.text.now) c.read_all.ensures

pub returns-clause-only : goal.returns-clause-only
returns-clause-only c certificate h = text_only (λ x. x) c.read_all.result (lines_of c.args.text.now) certificate (read_found_of _ _ c.read_all.ensures) (read_fault_of _ _ c.read_all.ensures) h
