use Rattle.std.proofs.Common.{◌≡◌, length}
use Rattle.hq_text.specs.Lines.{lines_of}
use Rattle.hq_certread.specs.DraftView.{state_of}
use Rattle.hq_text.proofs.LineByLine.{Taken}
use Rattle.hq_certread.specs.TextFaults.{added}
use Rattle.hq_certread.proofs.reading.take_split.Given as goal

abbrev pub invariant-loop-rest : goal.invariant-loop-rest
invariant-loop-rest l = record { taken : Taken added (lines_of l.text) (lines_of l.rest) l.before l.count (state_of l.fn.draft) (state_of l.draft); gone : l.draft.gone ≡ l.fn.draft.gone }

abbrev pub decreases-loop-rest : goal.decreases-loop-rest
decreases-loop-rest l = length l.rest
