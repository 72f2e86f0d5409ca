use Rattle.std.proofs.Common.{◌≡◌, ◌⊎◌, codes, subst}
use Rattle.hq_text.specs.Lines.{lines_of}
use Rattle.hq_jobtext.specs.Answered.{no_memory as fault_of_memory}
use Rattle.hq_jobtext.specs.JobText.{FirstFault}
use Rattle.hq_status.specs.Reports.{with_feed}
use Rattle.hq_status.specs.Reports.ReaderReport.{no_text, no_memory}
use Rattle.hq_status.specs.declared.status.Status.TheVariants as status
use Rattle.hq_status.proofs.WholeTexts.{whole_refused}
use Rattle.hq_status.proofs.taking.take_job_text.Goals as goal

pub returns-in-Err-Memory-clause-refused : goal.returns-in-Err-Memory-clause-refused
returns-in-Err-Memory-clause-refused g c = (with_feed (codes "out of memory"), status.Memory, no_memory, c.say_memory.ensures)

pub returns-in-Err-Read-clause-refused : goal.returns-in-Err-Read-clause-refused
returns-in-Err-Read-clause-refused g c = (with_feed (codes "file fault"), status.File, no_text (c.in-Err-Read.ensures.failed c.in-Err-Read.field-0-is), c.say_file.ensures)

pub returns-in-Err-clause-refused : goal.returns-in-Err-clause-refused
returns-in-Err-clause-refused g c =
    let f = c.in-Err.fault in
    whole_refused _ g.R.Read.remaining c.args.reader.now c.take_text.new.reader c.in-Ok.text.items f _ _ c.say_no_job.result c.in-Ok.ensures.turned
    (subst (λ t. (f ≡ fault_of_memory) ⊎ FirstFault (lines_of t) f) c.deref.ensures.value c.in-Err.ensures.fault) c.say_no_job.ensures
