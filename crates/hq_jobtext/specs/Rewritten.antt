-- A job's text with other heads on its packets: nothing but the digits of the changed heads is other, and it is the
-- text of the job with these heads.
use Rattle.std.specs.Prelude.{◌≡◌, ℕ, List, [], ◌∷◌, Some, slice_get}
use Rattle.std.specs.List.{slice_split}
use Rattle.hq_packet.specs.declared.packet.Head.{Head}
use Rattle.hq_text.specs.Lines.{is_line_feed, lines_of}
use Rattle.hq_lines.specs.Heads.{IsPacketLine, WithHead}
use Rattle.hq_job.specs.Value.{JobValue}
use Rattle.hq_job.specs.Heads.{job_with_heads}
use Rattle.hq_jobtext.specs.JobText.{JobText}

-- A line and the new line in its place, by the heads of the packets. The packets of this line and of those behind it
-- have these numbers, and the packets of those behind it alone the last ones.
pub data LineRewritten (heads : List Head) (numbers : List ℕ) (old new : List ℕ) (behind : List ℕ) : Type 0 where
  -- a line that says no packet stays
  stays : ¬ IsPacketLine old → new ≡ old → behind ≡ numbers → LineRewritten heads numbers old new behind
  -- the line of a packet is the one for the packet with its head
  packet : (number : ℕ) (head : Head) → numbers ≡ number ∷ behind → slice_get heads number ≡ Some head
      → WithHead old head new → LineRewritten heads numbers old new behind

-- So are all lines, one behind another, whose packets have these numbers in the order of the lines.
abbrev pub Rewritten : List Head → List ℕ → List (List ℕ) → List (List ℕ) → Type 0
Rewritten heads numbers [] news = (numbers ≡ []) × (news ≡ [])
Rewritten heads numbers (old ∷ olds) news =
    (new : List ℕ) × (more : List (List ℕ)) × (behind : List ℕ) × (news ≡ new ∷ more)
    × LineRewritten heads numbers old new behind × Rewritten heads behind olds more

-- The new text has the line feeds of the old one, and between them its lines, with these heads on the packets of the
-- job, by number.
abbrev pub TextRewritten : List Head → JobValue → List ℕ → List ℕ → Type 0
TextRewritten heads job old new = Rewritten heads job.submissions (slice_split is_line_feed old)
    (slice_split is_line_feed new)

-- ---- the laws

-- Where the old text is a job's, the new one is the text of the job with these heads.
abbrev pub RewrittenIsJob : Type 0
RewrittenIsJob = (heads : List Head) (job : JobValue) (old new : List ℕ) → JobText (lines_of old) job
    → TextRewritten heads job old new → JobText (lines_of new) (job_with_heads job heads)

-- There is one new text.
abbrev pub OneRewritten : Type 0
OneRewritten = (heads : List Head) (job : JobValue) (old a b : List ℕ) → TextRewritten heads job old a
    → TextRewritten heads job old b → a ≡ b
