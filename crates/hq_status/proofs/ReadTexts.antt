-- What is said of a text that a reader gave.
use Rattle.std.proofs.Common.{◌≡◌, ℕ, List, Option, refl, subst}
use Rattle.hq_text.specs.Intake.{FaultOf, OfText}
use Rattle.hq_text.specs.Turns.{ReadTurn}
use Rattle.hq_text.specs.declared.intake.ReadFault.{ReadFault}
use Rattle.hq_text.specs.declared.intake.ReadFault.TheVariants.{Reader, Text}
use Rattle.hq_text.proofs.Taken.{known as known_bytes}
use Rattle.hq_status.specs.Reports.{OfReader, ReaderReport, Reported, Said}
use Rattle.hq_status.specs.Reports.ReaderReport.{of_text, no_text, no_memory}
use Rattle.hq_status.specs.declared.status.Status.{Status}

-- what the turns gave is what the reader had left, where that is known
pub of_reader : (S : Type 0) (left : S → Option (List ℕ)) (old new : S) (P : List ℕ → Type 0) → OfText S (ReadTurn left) 2000000 old new P → OfReader S left old new P
of_reader S left old new P h =
    record {
      text = h.text;
      ended = h.ended;
      known = known_bytes left 2000000 old new (λ bytes. bytes ≡ h.text) (record { text = h.text; ended = h.ended; so = refl });
      so = h.so;
    }

-- what a fault says that is the text's, or the reader's
pub text_fault : {F : Type 0} (e : ReadFault F) (fault : F) (Q : F → Type 0) (failed : Type 0) → e ≡ Text fault → FaultOf e Q failed → Q fault
text_fault {F = F} e fault Q failed is why = subst (λ (x : ReadFault F). FaultOf x Q failed) is why

pub reader_fault : {F : Type 0} (e : ReadFault F) (Q : F → Type 0) (failed : Type 0) → e ≡ Reader → FaultOf e Q failed → failed
reader_fault {F = F} e Q failed is why = subst (λ (x : ReadFault F). FaultOf x Q failed) is why

lifted : (S : Type 0) (left : S → Option (List ℕ)) (old new : S) (Part Report : List ℕ → List ℕ → Status → Type 0) → ((text out : List ℕ) (status : Status) → Part text out status → Report text out status) → (out : List ℕ) (status : Status)
    → ReaderReport S left old new Part out status → ReaderReport S left old new Report out status
lifted S left old new Part Report lift out status (of_text h) = of_text (record { text = h.text; ended = h.ended; known = h.known; so = lift h.text out status h.so })
lifted S left old new Part Report lift out status (no_text why) = no_text why
lifted S left old new Part Report lift out status no_memory = no_memory

-- what is reported where a text is of nothing is reported
pub missing : (S : Type 0) (left : S → Option (List ℕ)) (old new : S) (Part Report : List ℕ → List ℕ → Status → Type 0) → ((text out : List ℕ) (status : Status) → Part text out status → Report text out status) → (was is : Option (List ℕ)) (answered : Status)
    → Reported (ReaderReport S left old new Part) was is answered → Reported (ReaderReport S left old new Report) was is answered
missing S left old new Part Report lift was is answered said = (said.0, said.1, lifted S left old new Part Report lift said.0 said.1 said.2, said.3)

-- and so is the report of what a text is of
pub found : (S : Type 0) (left : S → Option (List ℕ)) (old new : S) (P : List ℕ → Type 0) (Part : List ℕ → Status → Type 0) (Report : List ℕ → List ℕ → Status → Type 0) → ((text out : List ℕ) (status : Status) → P text → Part out status → Report text out status) → (was mid is : Option (List ℕ)) (answered : Status)
    → OfReader S left old new P → mid ≡ was → Reported Part mid is answered → Reported (ReaderReport S left old new Report) was is answered
found S left old new P Part Report lift was mid is answered h same said =
    (said.0, said.1, of_text (record { text = h.text; ended = h.ended; known = h.known; so = lift h.text said.0 said.1 h.so said.2 }), subst (λ o. Said o is said.0 said.1 answered) same said.3)
