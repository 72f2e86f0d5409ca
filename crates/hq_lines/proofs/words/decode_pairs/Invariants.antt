use Rattle.std.proofs.Common.{◌+◌, ◌-◌, ◌≤◌, length}
use Rattle.hq_lines.proofs.Pairs.{DecodesTo}
use Rattle.hq_lines.proofs.words.decode_pairs.Given as goal

abbrev pub invariant-loop-bytes : goal.invariant-loop-bytes
invariant-loop-bytes l = DecodesTo l.digits l.bytes l.done l.fine × (l.done ≤ length l.bytes)

abbrev pub decreases-loop-bytes : goal.decreases-loop-bytes
decreases-loop-bytes l = length l.bytes - l.done

abbrev pub invariant-loop-i : goal.invariant-loop-i
invariant-loop-i l = DecodesTo l.digits l.bytes (l.done + l.i) l.fine

abbrev pub invariant-loop-i-2 : goal.invariant-loop-i-2
invariant-loop-i-2 l = DecodesTo l.digits l.bytes l.i l.fine
