-- Whole texts.
use Rattle.std.proofs.Common.{◌≡◌, ℕ, inl, inr, true, false, List, Option, Some, None, Result, Ok, Err, sym, ap, subst, ◌∙◌}
use Rattle.std.specs.Prelude.{codes, IfOk, IfErr, IfSome}
use Rattle.hq_text.specs.Lines.{lines_of}
use Rattle.hq_jobtext.specs.declared.fault.JobFault.{JobFault}
use Rattle.hq_job.specs.Value.{JobValue}
use Rattle.hq_jobtext.specs.JobText.{SaysVersion, one, two, JobText, FirstFault}
use Rattle.hq_jobtext.specs.Answered.{FaultOf, GivesJob, GivesUnlessRead}
use Rattle.hq_jobtext.specs.SoFar.{ReadOf}
use Rattle.hq_tables.specs.declared.fault.Reason.TheVariants as reason
use Rattle.hq_jobtext.proofs.NotRead.{not_read}
use Rattle.hq_jobtext.proofs.Texts.{one_job, faultless_where_job}
use Rattle.hq_text.specs.Intake.{OfText}
use Rattle.hq_text.specs.Turns.{Turn, ReadTurn}
use Rattle.hq_text.proofs.Taken.{any_known, known}

pub text_only : {X : Type 0} (view : X → JobValue) (r : Result X JobFault) (lines : List (List ℕ)) (job : JobValue) → ReadOf view r lines → JobText lines job → GivesJob view r job
text_only view (Ok j) lines job found t = one_job lines (view j) job found t
text_only view (Err f) lines job (inl m) t = m
text_only view (Err f) lines job (inr h) t = absurd (faultless_where_job lines job f t h)

-- ---- texts from readers

pub known_fault : {X S : Type 0} (r : Result X JobFault) (left : S → Option (List ℕ)) (turns : ℕ) (old new : S) (failed : Type 0) → IfErr r (λ f. FaultOf f (OfText S (ReadTurn left) turns old new (λ text. FirstFault (lines_of text) f)) failed)
    → IfSome (left old) (λ text. IfErr r (λ f. FaultOf f (FirstFault (lines_of text) f) (Unit {0})))
known_fault (Ok j) left turns old new failed h = any_known (λ text. Unit {0}) (left old) (λ text. tt)
known_fault (Err f) left turns old new failed (inl m) = any_known (λ text. FaultOf f (FirstFault (lines_of text) f) (Unit {0})) (left old) (λ text. inl m)
known_fault (Err f) left turns old new failed (inr (inl h)) = any_known (λ text. FaultOf f (FirstFault (lines_of text) f) (Unit {0})) (left old) (λ text. inr (inl (h.0, tt)))
known_fault (Err f) left turns old new failed (inr (inr h)) =
    known left turns old new (λ text. FaultOf f (FirstFault (lines_of text) f) (Unit {0})) (record { text = h.text; ended = h.ended; so = inr (inr h.so) })

pub known_only : {X : Type 0} (view : X → JobValue) (r : Result X JobFault) (bytes : Option (List ℕ)) → IfSome bytes (λ text. IfOk r (λ j. JobText (lines_of text) (view j))) → IfSome bytes (λ text. IfErr r (λ f. FaultOf f (FirstFault (lines_of text) f) (Unit {0})))
    → IfSome bytes (λ text. (job : JobValue) → JobText (lines_of text) job → GivesUnlessRead view r job)
known_only view r None found fault = tt
known_only view (Ok j) (Some text) found fault = λ job t. one_job (lines_of text) (view j) job found t
known_only view (Err f) (Some text) found (inl m) = λ job t. inl m
known_only view (Err f) (Some text) found (inr (inl h)) = λ job t. inr h.0
known_only view (Err f) (Some text) found (inr (inr h)) = λ job t. absurd (faultless_where_job (lines_of text) job f t h)

-- a reader's failure is no fault of a text, so that where it is told it is one
pub failed_where_read : {X S : Type 0} (r : Result X JobFault) (T : Turn S) (turns : ℕ) (old new : S) (failed : Type 0) → IfErr r (λ f. FaultOf f (OfText S T turns old new (λ text. FirstFault (lines_of text) f)) failed) → IfErr r (λ f. f.reason ≡ reason.Read → failed)
failed_where_read (Ok j) T turns old new failed h = tt
failed_where_read (Err f) T turns old new failed (inl m) = λ e. absurd (memory_not_read (sym (ap (λ (g : JobFault). g.reason) m) ∙ e))
  where
    memory_not_read : reason.Memory ≡ reason.Read → ⊥
    memory_not_read e = cc
failed_where_read (Err f) T turns old new failed (inr (inl h)) = λ e. h.1
failed_where_read (Err f) T turns old new failed (inr (inr h)) = λ e. absurd (not_read (lines_of h.text) f h.so e)

-- ---- versions

pub version_one : (line : List ℕ) → line ≡ codes "hsaq 1" → SaysVersion line false
version_one line e = subst (λ (l : List ℕ). SaysVersion l false) (sym e) one

pub version_two : (line : List ℕ) → line ≡ codes "hsaq 2" → SaysVersion line true
version_two line e = subst (λ (l : List ℕ). SaysVersion l true) (sym e) two
