-- The text that a certificate prints.
use Rattle.std.specs.Prelude.{ℕ, ◌^◌, ◌≤◌, Bool, true, false, List, length}
use Rattle.std.specs.List.{list_any}
use Rattle.hq_text.specs.Lines.{lines_of}
use Rattle.hq_text.specs.Printed.{lines_text}
use Rattle.hq_model.specs.declared.limits.TheConstants.{PACKETS}
use Rattle.hq_model.specs.Job.{Job, packet}
use Rattle.hq_model.specs.Theorems.{Valid}
use Rattle.hq_model.specs.Certificate.{CertHolds}
use Rattle.hq_model.specs.Certificate as model
use Rattle.hq_model.specs.Certificate.Fences.{ForReadWrite, ForWriteWrite, ForWriteRead, ForWriteWriteChained}
use Rattle.hq_model.specs.Certificate.Fences.{ForWriteReadChained}
use Rattle.hq_certtext.specs.Grammar.{certificate_words, CertificateFits, CertText}

-- fences that are chained
abbrev pub is_chain : model.Fences → Bool
is_chain (ForReadWrite line) = false
is_chain (ForWriteWrite x from on) = false
is_chain (ForWriteRead x y from between to) = false
is_chain (ForWriteWriteChained x x2 from link on) = true
is_chain (ForWriteReadChained x x2 y2 y from link between link2 to) = true

-- a chained pair line is there
abbrev pub has_chain : model.Certificate → Bool
has_chain c = list_any (λ pair. is_chain pair.fences) c.pairs

-- The text, which begins `hsac 2` exactly where a chained pair line is there.
abbrev pub text_of : model.Certificate → List ℕ
text_of c = lines_text (certificate_words (has_chain c) c)

-- What a certificate prints is its text.
abbrev pub ReadBack : Type 0
ReadBack = (c : model.Certificate) → CertificateFits (has_chain c) c → CertText (lines_of (text_of c)) c

-- a job within the limits of its text: at most 1,024 packets, each with at most five slots
pub record Limited (job : Job) : Type 0 where
  pub packets : length job.packets ≤ PACKETS
  pub slots : (r : ℕ) → length (packet job r).deps ≤ 5

-- What prints of a certificate that holds for such a job, with lines that 32 bits number, is a text of that
-- certificate.
abbrev pub PrintedIsRead : Type 0
PrintedIsRead = (job : Job) (c : model.Certificate) → Valid job → Limited job → CertHolds job c
    → length c.lines ≤ 2 ^ 32 → CertText (lines_of (text_of c)) c
