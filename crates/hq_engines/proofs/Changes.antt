-- What `fix` and `trim` write of a text.
use Rattle.std.proofs.Common.{◌≡◌, ◌≢◌, ℕ, inl, inr, List, Option, Some, None, length, refl, sym, ◌∙◌, subst}
use Rattle.std.specs.Io.KnownBytes.{Appends}
use Rattle.std.proofs.lemmas.List.{length-map}
use Rattle.hq_packet.specs.Parts.{head_of}
use Rattle.hq_change.proofs.Whole.{as_many_values}
use Rattle.hq_job.specs.Heads.{heads_of}
use Rattle.hq_tables.specs.declared.rows.Placed.{Placed}
use Rattle.hq_model.specs.Job.{Job}
use Rattle.hq_model.specs.Settings.{SameButHeads, highest}
use Rattle.hq_model.specs.Theorems.{Valid}
use Rattle.hq_model.proofs.SettingsKept.{heads_leave_valid}
use Rattle.hq_model.proofs.SettingsSteps.{highest_is_highest}
use Rattle.hq_text.specs.Lines.{lines_of}
use Rattle.hq_jobtext.specs.JobText.{JobText}
use Rattle.hq_job.specs.Plan.{plan}
use Rattle.hq_job.specs.Value.{JobValue}
use Rattle.hq_audit.specs.Refused.{IsRefused}
use Rattle.hq_jobtext.specs.Rewritten.{TextRewritten}
use Rattle.hq_audit.specs.declared.fault.AuditNo.{AuditNo}
use Rattle.hq_audit.specs.declared.fault.AuditNo.TheVariants as no
use Rattle.hq_judging.specs.Audit.{StuckExactly, NoSaid}
use Rattle.hq_engines.specs.Change.{ChangeReport, IsChanged, TellsChange, TellsIfDone, TellsText, TellsWritten, judged_job}
use Rattle.hq_engines.specs.Change.ChangeReport.{not_ordered}
use Rattle.hq_status.specs.Reports.{JobTextReport, NoJob, OfReader, ReaderReport, Reported, Said}
use Rattle.hq_status.specs.Reports.JobTextReport.{of_job, no_job}
use Rattle.hq_status.specs.Reports.NoJob.{refused}
use Rattle.hq_status.specs.Reports.ReaderReport.{of_text, no_text, no_memory}
use Rattle.hq_engines.specs.declared.change.Aim.{Aim}
use Rattle.hq_engines.specs.declared.change.Aim.TheVariants as aim
use Rattle.hq_engines.specs.declared.change.Changed.{Changed}
use Rattle.hq_status.specs.declared.status.Status.{Status}
use Rattle.hq_status.specs.declared.status.Status.TheVariants.{Done, Stuck, Conflict, Memory}
use Rattle.hq_judging.proofs.Audits.{no_reported}
use Rattle.hq_status.proofs.ReadTexts.{found, missing}

-- ---- the job that is judged

judged_valid : (a : Aim) (job : Job) → Valid job → Valid (judged_job a job)
judged_valid aim.Fix job valid = (heads_leave_valid job (highest job) (highest_is_highest job job refl).same).0 valid
judged_valid aim.Trim job valid = valid

pub no_change : StuckExactly → (a : Aim) (text : List ℕ) (job : JobValue) → Valid (plan job) → (refusal : AuditNo) (was is : Option (List ℕ)) (answered : Status) → IsRefused (judged_job a (plan job)) refusal → NoSaid refusal was is answered → Reported (ChangeReport a text job) was is answered
no_change law a text job valid refusal was is answered why said =
    let r = no_reported law (judged_job a (plan job)) (judged_valid a (plan job) valid) refusal was is answered why said in
    (r.0, r.1, not_ordered r.2, r.3)

-- ---- as many heads as packets

same_plans : (a : Aim) (j k : Job) → IsChanged a j k → SameButHeads j k
same_plans aim.Fix j k h = h.above.same
same_plans aim.Trim j k h = sym h.below.same

pub heads_count : (a : Aim) (j k : JobValue) → IsChanged a (plan j) (plan k) → length (heads_of k) ≡ length j.packets
heads_count a j k h = length-map k.packets (λ (p : Placed). head_of p.packet) ∙ sym (as_many_values j k (same_plans a (plan j) (plan k) h))

-- ---- the engine

pub change_missing : (S : Type 0) (left : S → Option (List ℕ)) (old new : S) (a : Aim) (was is : Option (List ℕ)) (answered : Status)
    → Reported (ReaderReport S left old new NoJob) was is answered → Reported (ReaderReport S left old new (λ text. JobTextReport (ChangeReport a text) text)) was is answered
change_missing S left old new a was is answered said = missing S left old new NoJob (λ text. JobTextReport (ChangeReport a text) text) (λ text out status why. no_job why) was is answered said

pub change_reported : (S : Type 0) (left : S → Option (List ℕ)) (old new : S) (a : Aim) (bytes : List ℕ) (job : JobValue) (was mid is : Option (List ℕ)) (answered : Status)
    → OfReader S left old new (λ text. (text ≡ bytes) × JobText (lines_of text) job) → mid ≡ was → Reported (ChangeReport a bytes job) mid is answered → Reported (ReaderReport S left old new (λ text. JobTextReport (ChangeReport a text) text)) was is answered
change_reported S left old new a bytes job was mid is answered h same said =
    found S left old new (λ text. (text ≡ bytes) × JobText (lines_of text) job) (ChangeReport a bytes job) (λ text. JobTextReport (ChangeReport a text) text)
    (λ text out status it report. of_job job it.1 (subst (λ t. ChangeReport a t job out status) (sym it.0) report)) was mid is answered h same said

-- ---- what is told

-- what is said with another status than `Done` isn't done
said_undone : (was is : Option (List ℕ)) (text : List ℕ) (status answered : Status) → status ≢ Done → Said was is text status answered → answered ≡ Done → ⊥
said_undone was is text status answered other (inl said) done = other (sym said.0 ∙ done)
said_undone was is text status answered other (inr failed) done = cc

pub no_undone : (refusal : AuditNo) (was is : Option (List ℕ)) (answered : Status) → NoSaid refusal was is answered → answered ≡ Done → ⊥
no_undone (no.Stuck packets) was is answered said done = said_undone was is _ Stuck answered (λ e. cc) said done
no_undone (no.Conflict p r kind why) was is answered said done = said_undone was is _ (Conflict p r kind why) answered (λ e. cc) said done
no_undone no.Memory was is answered said done = said_undone was is _ Memory answered (λ e. cc) said done

refused_undone : (text out : List ℕ) (status : Status) → NoJob text out status → status ≡ Done → ⊥
refused_undone text out status (refused fault first) done = cc

unread_undone : (S : Type 0) (left : S → Option (List ℕ)) (old new : S) (out : List ℕ) (status : Status) → ReaderReport S left old new NoJob out status → status ≡ Done → ⊥
unread_undone S left old new out status (of_text h) done = refused_undone h.text out status h.so done
unread_undone S left old new out status (no_text why) done = cc
unread_undone S left old new out status no_memory done = cc

pub missing_undone : (S : Type 0) (left : S → Option (List ℕ)) (old new : S) (was is : Option (List ℕ)) (answered : Status) → Reported (ReaderReport S left old new NoJob) was is answered → answered ≡ Done → ⊥
missing_undone S left old new was is answered said done =
    said_undone was is said.0 said.1 answered (unread_undone S left old new said.0 said.1 said.2) said.3 done

-- what was said as done was written
said_written : (was is : Option (List ℕ)) (text : List ℕ) (answered : Status) → Said was is text Done answered → answered ≡ Done → Appends was is text
said_written was is text answered (inl said) done = said.1
said_written was is text answered (inr failed) done = absurd cc

pub written_told : (a : Aim) (text : List ℕ) (job : JobValue) (new : List ℕ) (changed : Changed) (was is : Option (List ℕ)) (answered : Status) (o : Option Changed)
    → JobText (lines_of new) changed.job → TextRewritten (heads_of changed.job) job text new → TellsChange a job changed → Said was is new Done answered → TellsIfDone answered o (λ it. it ≡ changed) → TellsIfDone answered o (TellsWritten a text job was is)
written_told a text job new changed was is answered None reads rewritten told said h = h
written_told a text job new changed was is answered (Some it) reads rewritten told said h =
    let tells : TellsWritten a text job was is changed = record { written = new; appended = said_written was is new answered said h.0; reads = reads; rewritten = rewritten; told = told } in
    (h.0, subst (TellsWritten a text job was is) (sym h.1) tells)

pub change_told : (S : Type 0) (left : S → Option (List ℕ)) (old new : S) (a : Aim) (bytes : List ℕ) (job : JobValue) (was mid is : Option (List ℕ)) (answered : Status) (o : Option Changed)
    → OfReader S left old new (λ text. (text ≡ bytes) × JobText (lines_of text) job) → mid ≡ was → TellsIfDone answered o (TellsWritten a bytes job mid is) → TellsIfDone answered o (λ it. OfReader S left old new (TellsText a was is it))
change_told S left old new a bytes job was mid is answered None h same told = told
change_told S left old new a bytes job was mid is answered (Some it) h same told =
    let at : TellsWritten a h.text job was is it = subst (λ t. TellsWritten a t job was is it) (sym h.so.0) (subst (λ w. TellsWritten a bytes job w is it) same told.1) in
    (told.0, record { text = h.text; ended = h.ended; known = h.known; so = (job, h.so.1, at) })
