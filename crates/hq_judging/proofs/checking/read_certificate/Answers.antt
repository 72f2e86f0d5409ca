use Rattle.std.proofs.Common.{codes}
use Rattle.hq_status.specs.Reports.{with_feed}
use Rattle.hq_status.specs.Reports.ReaderReport.{no_text}
use Rattle.hq_status.specs.declared.status.Status.TheVariants.{File}
use Rattle.hq_judging.proofs.WhileRead.{read_for}
use Rattle.hq_judging.proofs.Checks.{no_certificate_said}
use Rattle.hq_status.proofs.ReadTexts.{reader_fault, text_fault}
use Rattle.hq_judging.proofs.checking.read_certificate.Goals as goal

pub returns-in-Ok-clause-found : goal.returns-in-Ok-clause-found
returns-in-Ok-clause-found g c = read_for _ g.R.Read.remaining c.args.reader.now c.read_source.new.source c.args.checking c.in-Ok.known c.in-Ok.ensures.found

pub returns-in-Err-Reader-clause-refused : goal.returns-in-Err-Reader-clause-refused
returns-in-Err-Reader-clause-refused g c = (with_feed (codes "file fault"), File, no_text (reader_fault c.in-Err-Reader.field-0 _ _ c.in-Err-Reader.field-0-is c.in-Err-Reader.ensures.fault), c.say_file.ensures)

pub returns-in-Err-Text-clause-refused : goal.returns-in-Err-Text-clause-refused
returns-in-Err-Text-clause-refused g c =
    no_certificate_said _ g.R.Read.remaining c.args.reader.now c.read_source.new.source c.in-Err-Text.fault _ _ _ (text_fault c.in-Err-Text.field-0 c.in-Err-Text.fault _ _ c.in-Err-Text.field-0-is c.in-Err-Text.ensures.fault) c.say_faulty_text.ensures
