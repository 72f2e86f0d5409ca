use Rattle.std.proofs.Common.{◌≡◌, take}
use Rattle.std.specs.List.{list_any}
use Rattle.hq_lines.specs.Bytes.{is_outside}
use Rattle.hq_lines.proofs.read.has_outside.Given as goal

abbrev pub invariant-loop-b : goal.invariant-loop-b
invariant-loop-b l = l.found ≡ list_any is_outside (take l.b-index l.line)
