use Rattle.std.proofs.Common.{drop}
use Rattle.hq_job.specs.Plan.{plan}
use Rattle.hq_certtext.specs.Printing.{IsReady}
use Rattle.hq_judging.specs.Giving.{PrintsSuch}
use Rattle.hq_judging.specs.Places.{ArePieces, IsTextBetween, Leads}
use Rattle.hq_judging.proofs.giving_wide.print_texts.Given as goal

abbrev pub invariant-loop-piece : goal.invariant-loop-piece
invariant-loop-piece g l = record {
  ready : IsReady l.printer;
  leads : Leads l.audited l.fn.from l.at;
  rest : ArePieces (plan l.job) l.audited l.at (drop l.piece-index l.pieces);
  prints : PrintsSuch (IsTextBetween (plan l.job) l.audited l.fn.from l.at) (g.W.Write.contents l.fn.writer) l.fn.printer (g.W.Write.contents l.writer) l.printer;
}
