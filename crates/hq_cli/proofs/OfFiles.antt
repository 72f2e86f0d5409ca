-- What is reported of a job is reported of its file.
use Rattle.std.proofs.Common.{◌≡◌, ℕ, inl, inr, List, Option, codes, subst}
use Rattle.hq_job.specs.Value.{JobValue}
use Rattle.hq_status.specs.Reports.{JobTextReport, NoJob, Reported, Said, with_feed}
use Rattle.hq_status.specs.Reports.JobTextReport.{of_job, no_job}
use Rattle.hq_status.specs.declared.status.Status.{Status}
use Rattle.hq_status.specs.declared.status.Status.TheVariants.{Memory, Unopened}
use Rattle.hq_engines.specs.Recording.{BothSaid, Recorded}
use Rattle.hq_engines.specs.Witness.{AllSaid, Held, WitnessReport, Witnessed}
use Rattle.hq_run_engine.specs.Run.{RunReport}
use Rattle.hq_front.specs.Files.{FileReport, HasText, SaysUnopened}
use Rattle.hq_front.specs.Files.FileReport.{of_text, not_opened, no_text, no_memory}
use Rattle.hq_commands.specs.Judged.{JudgeReport}
use Rattle.hq_words.specs.declared.words.Asked.{Asked}
use Rattle.hq_words.specs.declared.words.Asked.TheVariants.{Show, Pack, Audit, Check, Run, Replay, Chart, Graph}
use Rattle.hq_words.specs.declared.words.Asked.TheVariants.{Explain, Witness, Fix, Trim}
use Rattle.hq_cli.specs.Answered.{AnswerReport, RunAnswer, WitnessAnswer}
use Rattle.hq_cli.specs.Answered.RunAnswer.{ran, not_made as run_not_made, no_memory as run_no_memory}
use Rattle.hq_cli.specs.Answered.WitnessAnswer.{looked, not_made as witness_not_made, no_memory as witness_no_memory}

pub of_taken : (Report : JobValue → List ℕ → Status → Type 0) (job : JobValue) (was mid is : Option (List ℕ)) (answered : Status) → HasText job → mid ≡ was → Reported (Report job) mid is answered → Reported (FileReport (JobTextReport Report)) was is answered
of_taken Report job was mid is answered text same said = (said.0, said.1, of_text text.0 (of_job job text.1 said.2), subst (λ o. Said o is said.0 said.1 answered) same said.3)

none_taken : (Report : JobValue → List ℕ → Status → Type 0) (out : List ℕ) (status : Status) → FileReport NoJob out status → FileReport (JobTextReport Report) out status
none_taken Report out status (of_text text why) = of_text text (no_job why)
none_taken Report out status not_opened = not_opened
none_taken Report out status no_text = no_text
none_taken Report out status no_memory = no_memory

pub of_none : (Report : JobValue → List ℕ → Status → Type 0) (was is : Option (List ℕ)) (answered : Status) → Reported (FileReport NoJob) was is answered → Reported (FileReport (JobTextReport Report)) was is answered
of_none Report was is answered said = (said.0, said.1, none_taken Report said.0 said.1 said.2, said.3)

-- ---- runs

pub run_unmade : (job : JobValue) (was is : Option (List ℕ)) (answered : Status) → SaysUnopened was is answered → Reported (RunAnswer job) was is answered
run_unmade job was is answered (inl said) = (with_feed (codes "file fault"), Unopened, run_not_made, said)
run_unmade job was is answered (inr said) = (with_feed (codes "out of memory"), Memory, run_no_memory, said)

one_said : (begun recorded : Option (List ℕ)) (events : List ℕ) (old new : Option (List ℕ)) (text : List ℕ) (status answered : Status) → BothSaid begun recorded events old new text status answered → Said old new text status answered
one_said begun recorded events old new text status answered (inl both) = inl (both.0, both.2)
one_said begun recorded events old new text status answered (inr failed) = inr failed

pub has_run : (job : JobValue) (begun recorded was mid is : Option (List ℕ)) (answered : Status) → mid ≡ was → Recorded (RunReport job) begun recorded mid is answered → Reported (RunAnswer job) was is answered
has_run job begun recorded was mid is answered same r =
    (r.1, r.2, ran r.0 r.3, subst (λ o. Said o is r.1 r.2 answered) same (one_said begun recorded r.0 mid is r.1 r.2 answered r.4))

-- ---- witnesses

pub witness_unmade : (job : JobValue) (was mid is : Option (List ℕ)) (answered : Status) → mid ≡ was → SaysUnopened mid is answered → Reported (WitnessAnswer job) was is answered
witness_unmade job was mid is answered same (inl said) = (with_feed (codes "file fault"), Unopened, witness_not_made, subst (λ o. Said o is (with_feed (codes "file fault")) Unopened answered) same said)
witness_unmade job was mid is answered same (inr said) = (with_feed (codes "out of memory"), Memory, witness_no_memory, subst (λ o. Said o is (with_feed (codes "out of memory")) Memory answered) same said)

answer_said : (old new : Held) (good bad text : List ℕ) (status answered : Status) → AllSaid old new good bad text status answered → Said old.answer new.answer text status answered
answer_said old new good bad text status answered (inl all) = inl (all.0, all.3)
answer_said old new good bad text status answered (inr failed) = inr failed

pub has_looked : (job : JobValue) (old new : Held) (was : Option (List ℕ)) (answered : Status) → old.answer ≡ was → Witnessed (WitnessReport job) old new answered → Reported (WitnessAnswer job) was new.answer answered
has_looked job old new was answered same w =
    (w.2, w.3, looked w.0 w.1 w.4, subst (λ o. Said o new.answer w.2 w.3 answered) same (answer_said old new w.0 w.1 w.2 w.3 answered w.5))

-- ---- what judges

judged_is : (asked : Asked) (out : List ℕ) (status : Status) → JudgeReport asked out status → AnswerReport asked out status
judged_is (Show job) out status report = report
judged_is (Pack words) out status report = report
judged_is (Audit job) out status report = report
judged_is (Check job certificate) out status report = report
judged_is (Run job timeline) out status report = absurd report
judged_is (Replay job timeline) out status report = absurd report
judged_is (Chart job timeline copies) out status report = absurd report
judged_is (Graph job) out status report = absurd report
judged_is (Explain job pair second all) out status report = absurd report
judged_is (Witness job good bad) out status report = absurd report
judged_is (Fix job) out status report = absurd report
judged_is (Trim job) out status report = absurd report

pub has_judged : (asked : Asked) (was is : Option (List ℕ)) (answered : Status) → Reported (JudgeReport asked) was is answered → Reported (AnswerReport asked) was is answered
has_judged asked was is answered said = (said.0, said.1, judged_is asked said.0 said.1 said.2, said.3)
