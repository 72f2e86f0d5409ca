-- What each command writes.
use Rattle.std.specs.Prelude.{◌≡◌, ℕ, Bool, true, false, List, [], Option, Some, None, codes, option_map}
use Rattle.hq_text.specs.Numbers.{number_of}
use Rattle.hq_job.specs.Value.{JobValue}
use Rattle.hq_status.specs.Reports.{JobTextReport, with_feed}
use Rattle.hq_status.specs.declared.status.Status.{Status}
use Rattle.hq_status.specs.declared.status.Status.TheVariants.{Memory, Unopened, PairWords}
use Rattle.hq_engines.specs.Change.{ChangeReport}
use Rattle.hq_engines.specs.declared.change.Aim.TheVariants as aim
use Rattle.hq_engines.specs.Chart.{ChartReport}
use Rattle.hq_engines.specs.Explain.{ExplainReport}
use Rattle.hq_engines.specs.Graph.{GraphReport}
use Rattle.hq_engines.specs.Replay.{TimelineReport}
use Rattle.hq_engines.specs.Replay as replay
use Rattle.hq_engines.specs.Witness.{WitnessReport}
use Rattle.hq_run_engine.specs.Run.{RunReport}
use Rattle.hq_explain.specs.declared.which.Which.{Which}
use Rattle.hq_explain.specs.declared.which.Which.TheVariants as which
use Rattle.hq_front.specs.Files.{FileReport}
use Rattle.hq_commands.specs.Judged.{JudgeReport}
use Rattle.hq_words.specs.declared.words.Asked.{Asked}
use Rattle.hq_words.specs.declared.words.Asked.TheVariants.{Show, Pack, Audit, Check, Run, Replay, Chart, Graph}
use Rattle.hq_words.specs.declared.words.Asked.TheVariants.{Explain, Witness, Fix, Trim}

-- the pair of two numbers
abbrev pub pair_of : Option ℕ → Option ℕ → Option Which
pair_of (Some p) (Some r) = Some (which.Pair p r)
pair_of (Some p) None = None
pair_of None other = None

-- which pairs the words of `explain` ask for: that of two words, if these are numbers; all; or the first hundred
abbrev pub which_of : Option (List ℕ) → Option (List ℕ) → Bool → Option Which
which_of (Some p) (Some r) all = pair_of (number_of p) (number_of r)
which_of (Some p) None all = None
which_of None (Some r) all = None
which_of None None true = Some which.All
which_of None None false = Some which.First

-- What `explain` writes: of a file's job the pairs that are asked for, if it is told which these are.
pub data ExplainAnswer (asked : Option Which) : List ℕ → Status → Type 0 where
  explained : {out : List ℕ} {status : Status} (which : Which) → asked ≡ Some which
      → FileReport (JobTextReport (ExplainReport which)) out status → ExplainAnswer asked out status
  no_pair : asked ≡ None → ExplainAnswer asked [] PairWords

-- What `run` writes beside the timeline: its report; that the timeline's file can't be made; or that memory ran out.
pub data RunAnswer (job : JobValue) : List ℕ → Status → Type 0 where
  ran : {out : List ℕ} {status : Status} (timeline : List ℕ) → RunReport job timeline out status
      → RunAnswer job out status
  not_made : RunAnswer job (with_feed (codes "file fault")) Unopened
  no_memory : RunAnswer job (with_feed (codes "out of memory")) Memory

-- What `witness` writes beside the two timelines: the same.
pub data WitnessAnswer (job : JobValue) : List ℕ → Status → Type 0 where
  looked : {out : List ℕ} {status : Status} (good bad : List ℕ) → WitnessReport job good bad out status
      → WitnessAnswer job out status
  not_made : WitnessAnswer job (with_feed (codes "file fault")) Unopened
  no_memory : WitnessAnswer job (with_feed (codes "out of memory")) Memory

-- What is to be written of what is asked for.
abbrev pub AnswerReport : Asked → List ℕ → Status → Type 0
AnswerReport (Show job) out status = JudgeReport (Show job) out status
AnswerReport (Pack words) out status = JudgeReport (Pack words) out status
AnswerReport (Audit job) out status = JudgeReport (Audit job) out status
AnswerReport (Check job certificate) out status = JudgeReport (Check job certificate) out status
AnswerReport (Run job timeline) out status = FileReport (JobTextReport RunAnswer) out status
AnswerReport (Replay job timeline) out status = FileReport
    (JobTextReport (λ value. FileReport (TimelineReport (replay.RunReport value)))) out status
AnswerReport (Chart job timeline copies) out status = FileReport
    (JobTextReport (λ value. FileReport (TimelineReport (ChartReport value copies)))) out status
AnswerReport (Graph job) out status = FileReport (JobTextReport GraphReport) out status
AnswerReport (Explain job pair second all) out status = ExplainAnswer
    (which_of (option_map (λ p. p.now) pair) (option_map (λ p. p.now) second) all) out status
AnswerReport (Witness job good bad) out status = FileReport (JobTextReport WitnessAnswer) out status
AnswerReport (Fix job) out status = FileReport (λ text. JobTextReport (ChangeReport aim.Fix text) text) out status
AnswerReport (Trim job) out status = FileReport (λ text. JobTextReport (ChangeReport aim.Trim text) text) out status
