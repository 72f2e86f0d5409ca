-- What is written of a text that was read whole.
use Rattle.std.proofs.Common.{◌≡◌, ℕ, ◌⊎◌, inl, inr, List, Option, sym, ◌∙◌, ap}
use Rattle.hq_text.specs.Intake.{OfText}
use Rattle.hq_text.specs.Lines.{lines_of}
use Rattle.hq_text.specs.Turns.{Ends, ReadTurn}
use Rattle.hq_jobtext.specs.Answered.{no_memory, FaultOf}
use Rattle.hq_jobtext.specs.JobText.{FirstFault}
use Rattle.hq_jobtext.specs.declared.fault.JobFault.{JobFault}
use Rattle.hq_tables.specs.declared.fault.Reason.TheVariants as reason
use Rattle.hq_jobtext.proofs.NotRead.{not_read}
use Rattle.hq_status.specs.Reports.{IsUnread, NoJob, ReaderReport, Reported, SaysNoJob}
use Rattle.hq_status.specs.declared.status.Status.{Status}
use Rattle.hq_status.proofs.NoJobs.{no_job_said}

fault_of : (S : Type 0) (left : S → Option (List ℕ)) (old new : S) (text : List ℕ) (f : JobFault) → Ends S (ReadTurn left) 2000000 old text new → (f ≡ no_memory) ⊎ FirstFault (lines_of text) f
    → FaultOf f (OfText S (ReadTurn left) 2000000 old new (λ t. FirstFault (lines_of t) f)) (IsUnread S left old new)
fault_of S left old new text f ended (inl m) = inl m
fault_of S left old new text f ended (inr first) = inr (inr (record { text = text; ended = ended; so = first }))

never_read : (text : List ℕ) (f : JobFault) → (f ≡ no_memory) ⊎ FirstFault (lines_of text) f → ¬ (f.reason ≡ reason.Read)
never_read text f (inl m) e = let never : ⊥ = cc (sym (ap (λ (g : JobFault). g.reason) m) ∙ e) in never
never_read text f (inr first) e = not_read (lines_of text) f first e

pub whole_refused : (S : Type 0) (left : S → Option (List ℕ)) (old new : S) (text : List ℕ) (f : JobFault) (was is : Option (List ℕ)) (answered : Status) → Ends S (ReadTurn left) 2000000 old text new → (f ≡ no_memory) ⊎ FirstFault (lines_of text) f
    → SaysNoJob f was is answered → Reported (ReaderReport S left old new NoJob) was is answered
whole_refused S left old new text f was is answered ended why said = no_job_said S left old new f was is answered (fault_of S left old new text f ended why) (λ e. absurd (never_read text f why e)) said
