use Rattle.hq_text.proofs.Taken.{known_found, known_fault, known_only}
use Rattle.hq_text.specs.Lines.{lines_of}
use Rattle.hq_certread.specs.Gives.{no_memory}
use Rattle.hq_certtext.specs.Grammar.{CertText}
use Rattle.hq_certread.specs.SoFar.{HasFault}
use Rattle.hq_certread.proofs.Wholes.{one_certificate, no_fault}
use Rattle.hq_certread.proofs.reader.read.Goals as goal

pub returns-clause-found : goal.returns-clause-found
returns-clause-found g c = known_found c.read_source.result (λ text. CertText (lines_of text)) g.R.Read.remaining 2000000 c.args.reader.now c.read_source.new.source c.read_source.ensures.found

pub returns-clause-fault : goal.returns-clause-fault
returns-clause-fault g c = known_fault c.read_source.result (λ text. HasFault (lines_of text)) g.R.Read.remaining 2000000 c.args.reader.now c.read_source.new.source _ c.read_source.ensures.fault

pub returns-clause-only : goal.returns-clause-only
returns-clause-only g c =
    let old = c.args.reader.now in
    let new = c.read_source.new.source in
    known_only c.read_source.result (λ text. CertText (lines_of text)) (λ text. HasFault (lines_of text)) no_memory (λ text. one_certificate (lines_of text)) (λ text. no_fault (lines_of text)) (g.R.Read.remaining old)
    (known_found c.read_source.result (λ text. CertText (lines_of text)) g.R.Read.remaining 2000000 old new c.read_source.ensures.found)
    (known_fault c.read_source.result (λ text. HasFault (lines_of text)) g.R.Read.remaining 2000000 old new _ c.read_source.ensures.fault)
