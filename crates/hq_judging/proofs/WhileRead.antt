-- A certificate that is checked while it is read.
use Rattle.std.proofs.Common.{◌≡◌, ℕ, List, [], ◌++◌, Option, Ok, refl, sym, ap, subst, ◌∙◌, append-nil}
use Rattle.hq_text.specs.Intake.{OfText}
use Rattle.hq_text.specs.Lines.{lines_of}
use Rattle.hq_text.specs.Turns.{ReadTurn}
use Rattle.hq_job.specs.Plan.{plan}
use Rattle.hq_job.specs.Value.{JobValue}
use Rattle.hq_model.specs.Certificate as model
use Rattle.hq_certtext.specs.Grammar.{CertText}
use Rattle.hq_certread.specs.SoFar.{ReadBehind, lines_in, pairs_in}
use Rattle.hq_certcheck.specs.Seen.{SeenValue, HasSeen, IsSeen}
use Rattle.hq_judging.specs.Check.{CheckedReport, CertReport}
use Rattle.hq_judging.specs.Checking.{HasChecked, WasRead, WasReadFor}
use Rattle.hq_judging.specs.declared.checking.Checking.{Checking}
use Rattle.hq_judging.specs.declared.checking.ReadCertificate.{ReadCertificate}
use Rattle.hq_judging.proofs.Checks.{certificate_found}
use Rattle.hq_status.specs.Reports.{OfReader, ReaderReport, Reported}
use Rattle.hq_status.specs.declared.status.Status.{Status}
use Rattle.hq_status.proofs.ReadTexts.{of_reader}

-- the certificate of the lines, with what was let go
pub known_of : (from c : Checking) (lines : List (List ℕ)) (k : ReadCertificate) (h : HasChecked from lines c) → k.job ≡ c.job → k.seen ≡ c.seen → (k.certificate.lines ≡ lines_in c.progress) × (k.certificate.pairs ≡ pairs_in c.progress)
    → ReadBehind h.front h.gone (Ok k.certificate) lines → WasReadFor from lines k
known_of from c lines k h job seen parts read =
    let all : h.front ++ k.certificate.lines ≡ h.front = ap (λ ls. h.front ++ ls) (parts.0 ∙ h.no_lines) ∙ append-nil h.front in
    let gone : h.gone ++ k.certificate.pairs ≡ h.gone = ap (λ ps. h.gone ++ ps) (parts.1 ∙ h.no_pairs) ∙ append-nil h.gone in
    record {
      same = job ∙ h.same;
      read = record {
        whole = record { order = k.certificate.order; lines = h.front; pairs = h.gone };
        order = refl;
        text = subst (λ (ps : List model.Pair). CertText lines (record { order = k.certificate.order; lines = h.front; pairs = ps })) gone
            (subst (λ (ls : List model.Line). CertText lines (record { order = k.certificate.order; lines = ls; pairs = h.gone ++ k.certificate.pairs })) all read);
        seen = subst (λ (j : JobValue). HasSeen (plan j) h.front h.gone [] k.seen) (sym job) (subst (λ (s : SeenValue). HasSeen (plan c.job) h.front h.gone [] s) (sym seen) h.seen);
      };
    }

-- a reader's text, of which the job is the same
pub read_for : (S : Type 0) (left : S → Option (List ℕ)) (old new : S) (from : Checking) (k : ReadCertificate) → OfText S (ReadTurn left) 2000000 old new (λ text. WasReadFor from (lines_of text) k) → (k.job ≡ from.job) × OfReader S left old new (λ text. WasRead (lines_of text) k)
read_for S left old new from k h = (h.so.same, of_reader S left old new (λ text. WasRead (lines_of text) k) (record { text = h.text; ended = h.ended; so = h.so.read }))

-- what is written of a certificate that was read
pub known_found : (S : Type 0) (left : S → Option (List ℕ)) (old new : S) (job : JobValue) (k : ReadCertificate) (was mid is : Option (List ℕ)) (answered : Status)
    → k.job ≡ job → OfReader S left old new (λ text. WasRead (lines_of text) k) → mid ≡ was
    → ((c : model.Certificate) → c.order ≡ k.certificate.order → IsSeen (plan k.job) c k.seen → Reported (CheckedReport k.job c) mid is answered)
    → Reported (ReaderReport S left old new (CertReport job)) was is answered
known_found S left old new job k was mid is answered e h same said =
    certificate_found S left old new job h.so.whole was mid is answered
    (record { text = h.text; ended = h.ended; known = h.known; so = h.so.text }) same
    (subst (λ (j : JobValue). Reported (CheckedReport j h.so.whole) mid is answered) e (said h.so.whole h.so.order h.so.seen))
