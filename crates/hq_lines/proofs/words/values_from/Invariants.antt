use Rattle.std.proofs.Common.{◌≡◌, length}
use Rattle.hq_lines.specs.Decodes.{AreValues}
use Rattle.hq_lines.proofs.words.values_from.Given as goal

abbrev pub invariant-loop-i : goal.invariant-loop-i
invariant-loop-i l = AreValues l.digits l.from l.i l.values × (length l.values ≡ 128)
