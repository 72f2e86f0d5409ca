-- A certificate that is checked while it is read.
use Rattle.std.specs.Prelude.{◌≡◌, ℕ, List, [], ◌∷◌, length, map, Result, Ok, Err}
use Rattle.hq_job.specs.Plan.{plan}
use Rattle.hq_model.specs.Certificate as model
use Rattle.hq_certtext.specs.Grammar.{CertText}
use Rattle.hq_certread.specs.Ahead.{lines_ahead}
use Rattle.hq_certread.specs.SoFar.{HasFault, HasTaken, IsClosed, lines_in, pairs_in}
use Rattle.hq_certread.specs.declared.fault.CertFault.{CertFault}
use Rattle.hq_certcheck.specs.Listed.{Block, StandAt}
use Rattle.hq_certcheck.specs.Seen.{HasSeen, IsSeen}
use Rattle.hq_judging.specs.declared.checking.Checking.{Checking}
use Rattle.hq_judging.specs.declared.checking.ReadCertificate.{ReadCertificate}
use Rattle.hq_judging.specs.declared.chunk.Chunk.{Chunk}

-- ---- lines that chunks hold, left to be checked

-- the lines that were read ahead in the chunk, by their numbers
abbrev pub block_of : Chunk → Block
block_of chunk = record { from = chunk.ahead.before; count = length (lines_ahead chunk.ahead) }

-- they are lines of the certificate
abbrev pub IsHeld : List model.Line → Chunk → Type 0
IsHeld lines chunk = StandAt lines chunk.ahead.before (lines_ahead chunk.ahead)

-- the same of each of these chunks
abbrev pub AreHeld : List model.Line → List Chunk → Type 0
AreHeld lines [] = Unit {0}
AreHeld lines (chunk ∷ chunks) = IsHeld lines chunk × AreHeld lines chunks

-- ---- what was taken in

-- Behind the first, these lines of text were taken in: the job is the same, and what they say, lines of the certificate
-- and pair lines, was seen and let go. All lines of the certificate were checked but those that chunks hold.
pub record HasCheckedBut (from : Checking) (chunks : List Chunk) (lines : List (List ℕ)) (c : Checking) : Type 0 where
  pub same : c.job ≡ from.job
  pub front : List model.Line
  pub gone : List model.Pair
  pub taken : HasTaken lines front gone c.progress
  pub seen : HasSeen (plan c.job) front gone (map block_of chunks) c.seen
  pub held : AreHeld front chunks
  pub no_lines : lines_in c.progress ≡ []
  pub no_pairs : pairs_in c.progress ≡ []

-- and no line is left to be checked
abbrev pub HasChecked : Checking → List (List ℕ) → Checking → Type 0
HasChecked from lines c = HasCheckedBut from [] lines c

-- where no more lines of the certificate could come, that is still so, and they conclude the same
abbrev pub StaysSaid : Checking → Checking → Type 0
StaysSaid old new = IsClosed old.progress → IsClosed new.progress × (new.seen.lines ≡ old.seen.lines)

-- The certificate of a text of these lines was read, and its lines and pair lines were seen and checked.
pub record WasRead (lines : List (List ℕ)) (k : ReadCertificate) : Type 0 where
  pub whole : model.Certificate
  pub order : whole.order ≡ k.certificate.order
  pub text : CertText lines whole
  pub seen : IsSeen (plan k.job) whole k.seen

-- and the job is this one
pub record WasReadFor (from : Checking) (lines : List (List ℕ)) (k : ReadCertificate) : Type 0 where
  pub same : k.job ≡ from.job
  pub read : WasRead lines k

-- What was taken in answers at the end of these lines: what was read of them, or their first fault, unless memory ran
-- out.
abbrev pub FinishedOf : Checking → Result ReadCertificate CertFault → List (List ℕ) → Type 0
FinishedOf from (Ok known) lines = WasReadFor from lines known
FinishedOf from (Err f) lines = HasFault lines f
