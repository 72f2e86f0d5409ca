use Rattle.std.proofs.Common.{◌≤◌, length, take}
use Rattle.std.specs.Prelude.{map}
use Rattle.hq_certtext.specs.Gains.{Gains}
use Rattle.hq_certtext.specs.Grammar.{pair_words}
use Rattle.hq_text.specs.Printed.{lines_text}
use Rattle.hq_cert.specs.View.{pair_of}
use Rattle.hq_certtext.proofs.printing.write_pairs.Given as goal

abbrev pub invariant-loop-pair : goal.invariant-loop-pair
invariant-loop-pair g l = record {
  written : Gains (g.W.Write.contents l.fn.writer) l.fn.bytes l.fn.start (g.W.Write.contents l.writer) l.bytes l.at (lines_text (map pair_words (map pair_of (take l.pair-index l.pairs))));
  within : l.at ≤ length l.bytes;
}
