-- What is known of lines as they are gathered.
use Rattle.std.specs.Prelude.{◌≡◌, ℕ, ◌+◌, ◌*◌, ◌/◌, ◌%◌, ◌^◌, ◌<◌, ◌≤◌, List, length, Some, slice_get}
use Rattle.std.specs.Int.{bit_at}
use Rattle.std.specs.List.{AllZip}
use Rattle.hq_cert.specs.declared.certificate.Rule.{Rule}
use Rattle.hq_cert.specs.declared.citation.Citation.{Citation}
use Rattle.hq_cert.specs.View.{cited, rule_of}
use Rattle.hq_model.specs.Job.{Job, Decrements}
use Rattle.hq_model.specs.declared.limits.TheConstants.{PACKETS}
use Rattle.hq_model.specs.Certificate as model
use Rattle.hq_model.specs.Certificate.{Says, Cites, Follows, LinesHold, signals}
use Rattle.hq_derive.specs.declared.lines.Lines.{Lines}
use Rattle.hq_derive.specs.declared.ranks.Place.{Place}
use Rattle.hq_derive.specs.declared.ranks.Ranks.{Ranks}
use Rattle.hq_derive.specs.Needed.{HasLine, WordThere}

-- the lines so far, as the model has them
abbrev pub lines_of : Lines → List model.Line
lines_of l = l.lines

-- All lines hold, and there are as few packets as a job may have.
pub record AreSound (job : Job) (l : Lines) : Type 0 where
  pub few : length job.packets ≤ PACKETS
  pub follow : LinesHold job (lines_of l)

-- No line was lost.
pub record Grown (old new : List model.Line) : Type 0 where
  pub len : length old ≤ length new
  pub lines : (k : ℕ) (line : model.Line) → slice_get old k ≡ Some line → slice_get new k ≡ Some line

-- the row in which the ranks note which lines are needed that p is before others
pub record IsRowOf (ranks : Ranks) (p : ℕ) (row : List Place) : Type 0 where
  pub number : ℕ
  pub numbered : slice_get ranks.numbers.items p ≡ Some (number + 1)
  pub there : slice_get ranks.rows.items number ≡ Some row

-- the place of its word k
abbrev pub IsPlaceOf : Ranks → ℕ → ℕ → Place → Type 0
IsPlaceOf ranks p k place = (row : List Place) × IsRowOf ranks p row × (slice_get row k ≡ Some place)

-- the line that p is before r is noted as one of round 0
abbrev pub IsInitial : Ranks → ℕ → ℕ → Type 0
IsInitial ranks p r = (place : Place) × IsPlaceOf ranks p (r / 64) place × (bit_at place.initial (r % 64) ≡ 1)

-- there is a line for each that is noted as one of round 0
abbrev pub InitialThere : List model.Line → Ranks → Type 0
InitialThere lines ranks = (p k : ℕ) (place : Place) → IsPlaceOf ranks p k place → WordThere lines p place.initial (k * 64)

-- what one more step of the gathering keeps
pub record Goes (job : Job) (old new : Lines) : Type 0 where
  pub kept : AreSound job new
  pub grown : Grown (lines_of old) (lines_of new)
  pub ranks : new.ranks ≡ old.ranks

-- one more step, behind which there is a line that p is before r
pub record AddsLine (job : Job) (old new : Lines) (p r : ℕ) : Type 0 where
  pub goes : Goes job old new
  pub there : HasLine (lines_of new) p r

-- so, behind which all lines are there that are noted as those of round 0
pub record Begins (job : Job) (ranks : Ranks) (old new : Lines) : Type 0 where
  pub goes : Goes job old new
  pub there : InitialThere (lines_of new) ranks

-- the line of this number concludes that p is before r
pub record Numbered (job : Job) (old new : Lines) (p r k : ℕ) : Type 0 where
  pub goes : Goes job old new
  pub says : Says (lines_of new) (length (lines_of new)) k p r
  pub small : k + 1 < 2 ^ 32

-- p is before r by the rule, from the lines so far
pub record Ruled (job : Job) (old new : Lines) (p r : ℕ) (rule : Rule) : Type 0 where
  pub goes : Goes job old new
  pub follows : Follows job (lines_of new) (length (lines_of new)) p r (rule_of rule)

-- the citation says that p is, or is before, a packet that completes on the signal
abbrev pub CitesBranch : Job → List model.Line → ℕ → ℕ → Citation → Type 0
CitesBranch job lines p s citation = (d : ℕ) × Decrements job d s × Cites lines (length lines) (cited citation) p d

-- so, from the lines so far
pub record Branched (job : Job) (old new : Lines) (p s : ℕ) (citation : Citation) : Type 0 where
  pub goes : Goes job old new
  pub cites : CitesBranch job (lines_of new) p s citation

-- so do the citations, one for each of the signals
pub record AllBranched (job : Job) (old new : Lines) (p : ℕ) (signals : List ℕ)
    (citations : List Citation) : Type 0 where
  pub goes : Goes job old new
  pub cite : AllZip (CitesBranch job (lines_of new) p) signals citations
