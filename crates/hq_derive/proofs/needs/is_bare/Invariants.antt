use Rattle.std.proofs.Common.{◌≡◌, ℕ, ◌<◌, slice_index}
use Rattle.std.specs.Int.{bit_at}
use Rattle.hq_derive.proofs.needs.is_bare.Given as goal

-- the bits of the first words are there
abbrev pub invariant-loop-word : goal.invariant-loop-word
invariant-loop-word l = (i bit : ℕ) → i < l.word-index → bit_at (slice_index l.row i) bit ≡ 1 → bit_at l.all bit ≡ 1
