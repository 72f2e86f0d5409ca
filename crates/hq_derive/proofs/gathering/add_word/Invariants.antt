use Rattle.std.proofs.Common.{◌≡◌, ℕ, ◌+◌, ◌<◌, ◌⊎◌}
use Rattle.std.specs.Int.{bit_at}
use Rattle.hq_derive.specs.Gathered.{lines_of, Goes}
use Rattle.hq_derive.specs.Needed.{HasLine}
use Rattle.hq_derive.proofs.gathering.add_word.Given as goal

-- what is left of the word, or there is a line
abbrev pub invariant-each : goal.invariant-each
invariant-each l = Goes l.before l.fn.lines l.lines × ((bit : ℕ) → bit < 64 → bit_at l.word bit ≡ 1 → (bit_at l.rest bit ≡ 1) ⊎ HasLine (lines_of l.lines) l.p (l.first + bit))

abbrev pub decreases-each : goal.decreases-each
decreases-each l = l.rest
