-- Chunks of a certificate's text, which several threads read ahead, and whose pair lines they check.
use Rattle.std.specs.Prelude.{◌≡◌, ℕ, ◌≤◌, ◌⊎◌, List, [], ◌∷◌, ◌++◌, length, map, take, drop, Result, IfErr, OnOk}
use Rattle.hq_text.specs.Intake.{IsWhole, Stays}
use Rattle.hq_text.specs.Lines.{lines_of}
use Rattle.hq_model.specs.Job.{Job}
use Rattle.hq_model.specs.Certificate as model
use Rattle.hq_certread.specs.Ahead.{IsAhead, pairs_ahead}
use Rattle.hq_certread.specs.SoFar.{HasFault, IsClosed}
use Rattle.hq_certread.specs.declared.fault.CertFault.{CertFault}
use Rattle.hq_certcheck.specs.Concluded.{bare, conclusion_of}
use Rattle.hq_certcheck.specs.Listed.{BadLineOf, BadPairIs}
use Rattle.hq_judging.specs.Checking.{AreHeld, HasCheckedBut, block_of}
use Rattle.hq_judging.specs.declared.checking.Checking.{Checking}
use Rattle.hq_judging.specs.declared.chunk.Chunk.{Chunk}
use Rattle.hq_judging.specs.declared.chunks.Chunks.{Chunks}
use Rattle.hq_judging.specs.declared.checking_wide.Reading.{Reading}
use Rattle.hq_judging.specs.declared.checking_wide.Reading.TheVariants.{Taking, Faulty}

-- The chunk of this text was read ahead where this had been taken in, and the first of its pair lines that doesn't hold
-- is known. Where it has pair lines, no more lines of the certificate could come.
pub record IsLookedAt (job : Job) (at : Checking) (text : List ℕ) (chunk : Chunk) : Type 0 where
  pub ahead : IsAhead text chunk.ahead
  pub bad : BadPairIs job (map bare at.seen.lines) (pairs_ahead chunk.ahead) chunk.bad_pair
  pub closed : (pairs_ahead chunk.ahead ≡ []) ⊎ IsClosed at.progress

-- These chunks, each of whole lines, were looked at. They are what the text begins with, one behind another.
abbrev pub AreLookedAt : Job → Checking → List Chunk → List ℕ → Type 0
AreLookedAt job at [] text = Unit {0}
AreLookedAt job at (chunk ∷ chunks) text = (chunk.len ≤ length text) × IsWhole (take chunk.len text)
    × IsLookedAt job at (take chunk.len text) chunk × AreLookedAt job at chunks (drop chunk.len text)

-- Of the lines that each of these chunks held it is known now whether they hold, if they are of such lines.
abbrev pub AreJudged : Job → List model.Line → List Chunk → List Chunk → Type 0
AreJudged job lines [] [] = Unit {0}
AreJudged job lines (old ∷ olds) (new ∷ news) =
    BadLineOf job lines (block_of old) new.bad_line × AreJudged job lines olds news
AreJudged job lines _ _ = ⊥

-- The same of all lines that conclude what was seen.
abbrev pub WereJudged : Job → Checking → List Chunk → List Chunk → Type 0
WereJudged job at olds news = (lines : List model.Line) → map conclusion_of lines ≡ at.seen.lines
    → AreHeld lines olds → AreJudged job lines olds news

-- Behind the first, the whole lines that this text begins with were taken in, and the rest of it waits. Chunks hold the
-- lines of the certificate that are left to be checked.
pub record HasWaiting (from : Checking) (text : List ℕ) (p : Chunks) : Type 0 where
  pub front : List ℕ
  pub whole : IsWhole front
  pub cut : text ≡ front ++ p.waiting.items
  pub checked : HasCheckedBut from p.chunks.items (lines_of front) p.checking

-- This was given too, behind all that was read before: what it is made of is known of both together. Or the text had this
-- fault before, whatever follows it.
abbrev pub ReadsOn : Chunks → List ℕ → Result (Unit {0}) CertFault → Chunks → Type 0
ReadsOn old given result new = OnOk result ((from : Checking) (text : List ℕ) → HasWaiting from text old
    → HasWaiting from (text ++ given) new) × IfErr result (λ f. (from : Checking) (text : List ℕ) → HasWaiting from text old
    → Stays (λ lines. HasFault lines f) text)

-- Behind the first, this text was read: its whole lines were taken in but for what waits, or it has this fault,
-- whatever follows it.
abbrev pub HasRead : Checking → List ℕ → Reading → Type 0
HasRead from text (Taking chunks) = HasWaiting from text chunks
HasRead from text (Faulty f) = Stays (λ lines. HasFault lines f) text
