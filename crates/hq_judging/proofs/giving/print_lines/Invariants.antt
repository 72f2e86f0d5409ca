use Rattle.hq_certtext.specs.Printing.{IsReady}
use Rattle.hq_judging.specs.Giving.{IsLinesText, PrintsSuch}
use Rattle.hq_judging.proofs.giving.print_lines.Given as goal

abbrev pub invariant-loop-k : goal.invariant-loop-k
invariant-loop-k g l = record {
  ready : IsReady l.printer;
  prints : PrintsSuch (IsLinesText l.audited l.fn.from l.k) (g.W.Write.contents l.fn.writer) l.fn.printer (g.W.Write.contents l.writer) l.printer;
}
