use Rattle.std.proofs.Common.{◌≡◌, ℕ, ◌<◌, length, slice_index}
use Rattle.std.specs.Slots.{slots_items}
use Rattle.hq_board.proofs.words.copy_out.Given as goal

abbrev pub invariant-loop-place : goal.invariant-loop-place
invariant-loop-place l = (length l.values ≡ length l.initial.values) × (l.place-end ≡ length l.initial.values) × ((k : ℕ) → k < l.place → slice_index l.values k ≡ slice_index (slots_items l.closed.words) k)
