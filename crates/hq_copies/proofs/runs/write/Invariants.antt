use Rattle.std.proofs.Common.{◌≡◌, ◌<◌, ℕ, length, take, get_or}
use Rattle.hq_copies.specs.Overlays.{run_at, byte_over}
use Rattle.hq_copies.proofs.runs.write.Given as goal

abbrev pub invariant-loop-i : goal.invariant-loop-i
invariant-loop-i l = (n : ℕ) → n < length l.fn.slice → get_or l.slice n 0 ≡ byte_over (run_at l.start (take l.i l.bytes) n) (get_or l.fn.slice n 0)
