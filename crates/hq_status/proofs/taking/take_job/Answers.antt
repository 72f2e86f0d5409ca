use Rattle.hq_text.specs.Lines.{lines_of}
use Rattle.hq_jobtext.specs.JobText.{JobText}
use Rattle.hq_status.proofs.NoJobs.{no_job_said}
use Rattle.hq_status.proofs.ReadTexts.{of_reader}
use Rattle.hq_status.proofs.taking.take_job.Goals as goal

pub returns-in-Ok-clause-found : goal.returns-in-Ok-clause-found
returns-in-Ok-clause-found g c = of_reader _ g.R.Read.remaining c.args.reader.now c.read.new.reader (λ text. JobText (lines_of text) c.in-Ok.job) c.in-Ok.ensures.turned

pub returns-in-Err-clause-refused : goal.returns-in-Err-clause-refused
returns-in-Err-clause-refused g c = no_job_said _ g.R.Read.remaining c.args.reader.now c.read.new.reader c.in-Err.fault _ _ _ c.in-Err.ensures.failed c.in-Err.ensures.read c.say_no_job.ensures
