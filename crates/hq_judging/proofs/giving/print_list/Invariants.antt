use Rattle.std.proofs.Common.{take}
use Rattle.hq_job.specs.Plan.{plan}
use Rattle.hq_audit.specs.Audited.{list_in}
use Rattle.hq_certtext.specs.Printing.{IsReady}
use Rattle.hq_judging.specs.Giving.{IsPairsText, PrintsSuch}
use Rattle.hq_judging.proofs.giving.print_list.Given as goal

abbrev pub invariant-loop-k : goal.invariant-loop-k
invariant-loop-k g l = record {
  ready : IsReady l.printer;
  prints : PrintsSuch (IsPairsText (plan l.job) l.audited (take l.k (list_in l.audited l.list))) (g.W.Write.contents l.fn.writer) l.fn.printer (g.W.Write.contents l.writer) l.printer;
}
