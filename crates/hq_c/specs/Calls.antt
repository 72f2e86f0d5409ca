-- What a call from another language leaves.
use Rattle.std.specs.Prelude.{◌≡◌, ℕ, ◌⊎◌, List, ◌++◌, length, take, drop, codes}
use Rattle.hq_status.specs.Reports.{with_feed}
use Rattle.hq_status.specs.Statuses.{code_of}
use Rattle.hq_status.specs.declared.status.Status.{Status}
use Rattle.hq_status.specs.declared.status.Status.TheVariants.{Memory, File}

-- What is written of these bytes: the report of the text that they are, or that memory ran out.
pub data OfBytes (Report : List ℕ → List ℕ → Status → Type 0) (bytes : List ℕ) : List ℕ → Status → Type 0 where
  of_text : {out : List ℕ} {status : Status} → Report bytes out status → OfBytes Report bytes out status
  no_memory : OfBytes Report bytes (with_feed (codes "out of memory")) Memory

-- The caller's room holds the report's first bytes, as many as there is room for, and is as it was behind them; the
-- length is that of the whole report.
pub record IsHandedOut (report old new : List ℕ) (whole : ℕ) : Type 0 where
  pub room_is : new ≡ take (length old) report ++ drop (length report) old
  pub whole_is : whole ≡ length report

-- What the report asks for was handed out, and its status answered; or the answer is 9, of a failed file or stream.
abbrev pub Answers : (List ℕ → Status → Type 0) → List ℕ → List ℕ → ℕ → ℕ → Type 0
Answers Report old new whole answered =
    ((out : List ℕ) × (status : Status) × Report out status × (answered ≡ code_of status)
    × IsHandedOut out old new whole) ⊎ (answered ≡ code_of File)
