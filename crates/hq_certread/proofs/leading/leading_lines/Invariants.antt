use Rattle.std.proofs.Common.{◌≡◌, ◌+◌, length}
use Rattle.std.specs.Prelude.{map}
use Rattle.hq_cert.specs.View.{line_of}
use Rattle.hq_certread.specs.Ahead.{LeadingLines}
use Rattle.hq_certread.proofs.leading.leading_lines.Given as goal

abbrev pub invariant-loop-p : goal.invariant-loop-p
invariant-loop-p l = record {
  taken : LeadingLines l.before l.text l.rest l.taken (map line_of l.fn.lines.items) (map line_of l.lines.items);
  number : l.number + length (map line_of l.fn.lines.items) ≡ l.before + length (map line_of l.lines.items);
}

abbrev pub decreases-loop-p : goal.decreases-loop-p
decreases-loop-p l = length l.rest
