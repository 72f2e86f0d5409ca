-- What is printed of what an audit found.
use Rattle.std.specs.Prelude.{◌≡◌, ℕ, ◌-◌, false, List, ◌++◌, Option, length, map}
use Rattle.std.specs.Prelude.{take, drop}
use Rattle.std.specs.List.{list_any}
use Rattle.std.specs.Io.KnownBytes.{Appends}
use Rattle.hq_text.specs.Printed.{lines_text}
use Rattle.hq_model.specs.Job.{Job}
use Rattle.hq_model.specs.Certificate as model
use Rattle.hq_model.specs.Certificate.{Certificate, CertHolds}
use Rattle.hq_audit.specs.declared.audited.Audited.{Audited}
use Rattle.hq_audit.specs.declared.draft.Draft.{Draft}
use Rattle.hq_audit.specs.Audited.{lines_in, drafts_in}
use Rattle.hq_audit.specs.Paired.{ArePairsOf}
use Rattle.hq_certtext.specs.Grammar.{lines_words, pair_words}
use Rattle.hq_certtext.specs.Printed.{is_chain, text_of}
use Rattle.hq_certtext.specs.Printing.{Prints}
use Rattle.hq_certtext.specs.declared.printer.Printer.{Printer}

-- This is the text of the lines from one on, up to another.
abbrev pub IsLinesText : Audited → ℕ → ℕ → List ℕ → Type 0
IsLinesText a from to text = text ≡ lines_text (lines_words from (take (to - from) (drop from (lines_in a))))

-- This is the text of the pair lines of these drafts, none of which is chained.
pub record IsPairsText (job : Job) (a : Audited) (drafts : List Draft) (text : List ℕ) : Type 0 where
  pub pairs : List model.Pair
  pub are : ArePairsOf job (lines_in a) drafts pairs
  pub plain : list_any (λ pair. is_chain pair.fences) pairs ≡ false
  pub is : text ≡ lines_text (map pair_words pairs)

-- This is the text of the first lines, so many of them, and of the pair lines of these drafts.
pub record IsBodyText (job : Job) (a : Audited) (count : ℕ) (drafts : List Draft) (text : List ℕ) : Type 0 where
  pub behind : List ℕ
  pub pairs : IsPairsText job a drafts behind
  pub is : text ≡ lines_text (lines_words 0 (take count (lines_in a))) ++ behind

-- This is the text of all lines and pair lines.
abbrev pub IsWholeText : Job → Audited → List ℕ → Type 0
IsWholeText job a = IsBodyText job a (length (lines_in a)) (drafts_in a)

-- Behind what was printed, a text that is so was printed.
pub record PrintsSuch (Is : List ℕ → Type 0) (u : Option (List ℕ)) (old : Printer) (v : Option (List ℕ))
    (new : Printer) : Type 0 where
  pub text : List ℕ
  pub is : Is text
  pub prints : Prints u old v new text

-- The text of a certificate that holds was written.
pub record WritesCertificate (job : Job) (u v : Option (List ℕ)) : Type 0 where
  pub certificate : Certificate
  pub holds : CertHolds job certificate
  pub appends : Appends u v (text_of certificate)
