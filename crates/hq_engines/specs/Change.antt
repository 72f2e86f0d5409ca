-- What `fix` and `trim` write.
use Rattle.std.specs.Prelude.{◌≡◌, ◌≢◌, ℕ, List, Option, MatchOption}
use Rattle.std.specs.Io.KnownBytes.{Appends}
use Rattle.hq_model.specs.Job.{Job}
use Rattle.hq_model.specs.Settings.{highest}
use Rattle.hq_text.specs.Lines.{lines_of}
use Rattle.hq_jobtext.specs.JobText.{JobText}
use Rattle.hq_job.specs.Plan.{plan}
use Rattle.hq_jobtext.specs.Rewritten.{TextRewritten}
use Rattle.hq_job.specs.Heads.{heads_of}
use Rattle.hq_job.specs.Value.{JobValue}
use Rattle.hq_change.specs.Minimal.{IsFixed, IsTrimmed}
use Rattle.hq_judging.specs.Audit.{NotOrdered}
use Rattle.hq_engines.specs.declared.change.Aim.{Aim}
use Rattle.hq_engines.specs.declared.change.Aim.TheVariants as aim
use Rattle.hq_engines.specs.declared.change.Changed.{Changed}
use Rattle.hq_status.specs.declared.status.Status.{Status}
use Rattle.hq_status.specs.declared.status.Status.TheVariants.{Done}

-- k is the job as the aim has it: with the least that it lacks, or without all that it doesn't need
abbrev pub IsChanged : Aim → Job → Job → Type 0
IsChanged aim.Fix job k = IsFixed job k
IsChanged aim.Trim job k = IsTrimmed job k

-- the job of which it is said why it isn't ordered: with all bits and fences of system scope, or as it is
abbrev pub judged_job : Aim → Job → Job
judged_job aim.Fix job = highest job
judged_job aim.Trim job = job

-- What is written of a text and its job: the text with other heads, which is that of the job as the aim has it; or
-- why the job can't be ordered, or isn't.
pub data ChangeReport (aim : Aim) (text : List ℕ) (job : JobValue) : List ℕ → Status → Type 0 where
  changed : (k : JobValue) (new : List ℕ) → IsChanged aim (plan job) (plan k) → JobText (lines_of new) k
      → TextRewritten (heads_of k) job text new → ChangeReport aim text job new Done
  not_ordered : {out : List ℕ} {status : Status} → NotOrdered (judged_job aim (plan job)) out status
      → ChangeReport aim text job out status

-- the job as the aim has it, and the heads that its packets had
pub record TellsChange (aim : Aim) (job : JobValue) (it : Changed) : Type 0 where
  pub changed : IsChanged aim (plan job) (plan it.job)
  pub heads : it.heads.items ≡ heads_of job

-- What was written behind what the writer held is the text with other heads, which is that of the job that is
-- answered: the job as the aim has it, with the heads that there were.
pub record TellsWritten (aim : Aim) (text : List ℕ) (job : JobValue) (old new : Option (List ℕ))
    (it : Changed) : Type 0 where
  pub written : List ℕ
  pub appended : Appends old new written
  pub reads : JobText (lines_of written) it.job
  pub rewritten : TextRewritten (heads_of it.job) job text written
  pub told : TellsChange aim job it

-- so it is of the job that a text is
abbrev pub TellsText : Aim → Option (List ℕ) → Option (List ℕ) → Changed → List ℕ → Type 0
TellsText aim old new it text = (job : JobValue) × JobText (lines_of text) job × TellsWritten aim text job old new it

-- A changed job is answered exactly where the status is `Done`, and then the fact holds of it.
abbrev pub TellsIfDone : Status → Option Changed → (Changed → Type 0) → Type 0
TellsIfDone status answered Tells = MatchOption answered (status ≢ Done) (λ it. (status ≡ Done) × Tells it)
