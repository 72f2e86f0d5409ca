use Rattle.std.proofs.Common.{◌≤◌, length, take}
use Rattle.std.specs.Prelude.{map}
use Rattle.hq_certtext.specs.Gains.{Gains}
use Rattle.hq_certtext.specs.Grammar.{citation_word}
use Rattle.hq_text.specs.Printed.{spaced}
use Rattle.hq_cert.specs.View.{cited}
use Rattle.hq_certtext.proofs.printing.write_citations.Given as goal

abbrev pub invariant-loop-citation : goal.invariant-loop-citation
invariant-loop-citation g l = record {
  written : Gains (g.W.Write.contents l.fn.writer) l.fn.bytes l.fn.start (g.W.Write.contents l.writer) l.bytes l.at (spaced (map citation_word (map cited (take l.citation-index l.citations))));
  within : l.at ≤ length l.bytes;
}
