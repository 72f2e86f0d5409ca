use Rattle.std.proofs.Common.{◌≤◌, length, take}
use Rattle.std.specs.Prelude.{map}
use Rattle.hq_certtext.specs.Gains.{Gains}
use Rattle.hq_certtext.specs.Grammar.{lines_words}
use Rattle.hq_text.specs.Printed.{lines_text}
use Rattle.hq_cert.specs.View.{line_of}
use Rattle.hq_certtext.proofs.printing.write_lines.Given as goal

abbrev pub invariant-loop-k : goal.invariant-loop-k
invariant-loop-k g l = record {
  written : Gains (g.W.Write.contents l.fn.writer) l.fn.bytes l.fn.start (g.W.Write.contents l.writer) l.bytes l.at (lines_text (lines_words 0 (map line_of (take l.k l.lines))));
  within : l.at ≤ length l.bytes;
}
