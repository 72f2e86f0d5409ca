use Rattle.hq_text.proofs.Taken.{known_found}
use Rattle.hq_text.specs.Lines.{lines_of}
use Rattle.hq_jobtext.specs.JobText.{JobText}
use Rattle.hq_jobtext.proofs.Whole.{known_fault, known_only, failed_where_read}
use Rattle.hq_jobtext.proofs.reader.read.Goals as goal

pub returns-clause-found : goal.returns-clause-found
returns-clause-found g c = known_found c.read_source.result (λ text. JobText (lines_of text)) g.R.Read.remaining 2000000 c.args.reader.now c.read_source.new.source c.read_source.ensures.found

pub returns-clause-fault : goal.returns-clause-fault
returns-clause-fault g c = known_fault c.read_source.result g.R.Read.remaining 2000000 c.args.reader.now c.read_source.new.source _ c.read_source.ensures.fault

pub returns-clause-only : goal.returns-clause-only
returns-clause-only g c =
    let old = c.args.reader.now in
    let new = c.read_source.new.source in
    known_only (λ j. j) c.read_source.result (g.R.Read.remaining old)
    (known_found c.read_source.result (λ text. JobText (lines_of text)) g.R.Read.remaining 2000000 old new c.read_source.ensures.found)
    (known_fault c.read_source.result g.R.Read.remaining 2000000 old new _ c.read_source.ensures.fault)

pub returns-clause-read : goal.returns-clause-read
returns-clause-read g c = failed_where_read c.read_source.result _ 2000000 c.args.reader.now c.read_source.new.source _ c.read_source.ensures.fault
