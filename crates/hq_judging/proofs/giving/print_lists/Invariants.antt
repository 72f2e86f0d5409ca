use Rattle.hq_job.specs.Plan.{plan}
use Rattle.hq_certtext.specs.Printing.{IsReady}
use Rattle.hq_judging.specs.Giving.{PrintsSuch}
use Rattle.hq_judging.specs.Places.{IsListsText}
use Rattle.hq_judging.proofs.giving.print_lists.Given as goal

abbrev pub invariant-loop-list : goal.invariant-loop-list
invariant-loop-list g l = record {
  ready : IsReady l.printer;
  prints : PrintsSuch (IsListsText (plan l.job) l.audited l.fn.from l.list) (g.W.Write.contents l.fn.writer) l.fn.printer (g.W.Write.contents l.writer) l.printer;
}
