-- What the commands that judge write.
use Rattle.std.specs.Prelude.{ℕ, List, map}
use Rattle.hq_job.specs.Plan.{plan}
use Rattle.hq_status.specs.Reports.{JobTextReport}
use Rattle.hq_status.specs.declared.status.Status.{Status}
use Rattle.hq_judging.specs.Audit.{JobReport}
use Rattle.hq_judging.specs.Check.{CertReport}
use Rattle.hq_showing.specs.Packing.{PackReport}
use Rattle.hq_showing.specs.Show.{ShowReport}
use Rattle.hq_front.specs.Files.{FileReport}
use Rattle.hq_words.specs.declared.words.Asked.{Asked}
use Rattle.hq_words.specs.declared.words.Asked.TheVariants.{Show, Pack, Audit, Check, Run, Replay, Chart, Graph}
use Rattle.hq_words.specs.declared.words.Asked.TheVariants.{Explain, Witness, Fix, Trim}

-- what is asked for is to judge, to show packets or to pack one
abbrev pub IsToJudge : Asked → Type 0
IsToJudge (Show job) = Unit {0}
IsToJudge (Pack words) = Unit {0}
IsToJudge (Audit job) = Unit {0}
IsToJudge (Check job certificate) = Unit {0}
IsToJudge (Run job timeline) = ⊥
IsToJudge (Replay job timeline) = ⊥
IsToJudge (Chart job timeline copies) = ⊥
IsToJudge (Graph job) = ⊥
IsToJudge (Explain job pair second all) = ⊥
IsToJudge (Witness job good bad) = ⊥
IsToJudge (Fix job) = ⊥
IsToJudge (Trim job) = ⊥

-- what is to be written then: of `show` and `audit` the report of the job of a file, of `check` that of a certificate's
-- file for it, of `pack` that of the words
abbrev pub JudgeReport : Asked → List ℕ → Status → Type 0
JudgeReport (Show job) out status = FileReport (JobTextReport ShowReport) out status
JudgeReport (Pack words) out status = PackReport (map (λ w. w.now) words.items) out status
JudgeReport (Audit job) out status = FileReport (JobTextReport (λ value. JobReport (plan value))) out status
JudgeReport (Check job certificate) out status = FileReport
    (JobTextReport (λ value. FileReport (CertReport value))) out status
JudgeReport (Run job timeline) out status = ⊥
JudgeReport (Replay job timeline) out status = ⊥
JudgeReport (Chart job timeline copies) out status = ⊥
JudgeReport (Graph job) out status = ⊥
JudgeReport (Explain job pair second all) out status = ⊥
JudgeReport (Witness job good bad) out status = ⊥
JudgeReport (Fix job) out status = ⊥
JudgeReport (Trim job) out status = ⊥
