use Rattle.std.proofs.Common.{◌≤◌, length, take}
use Rattle.std.specs.Prelude.{map}
use Rattle.std.specs.Fmt.{decimal}
use Rattle.hq_certtext.specs.Gains.{Gains}
use Rattle.hq_text.specs.Printed.{spaced}
use Rattle.hq_certtext.proofs.printing.write_numbers.Given as goal

abbrev pub invariant-loop-number : goal.invariant-loop-number
invariant-loop-number g l = record {
  written : Gains (g.W.Write.contents l.fn.writer) l.fn.bytes l.fn.start (g.W.Write.contents l.writer) l.bytes l.at (spaced (map decimal (take l.number-index l.numbers)));
  within : l.at ≤ length l.bytes;
}
