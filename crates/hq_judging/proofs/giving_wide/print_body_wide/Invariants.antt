use Rattle.hq_job.specs.Plan.{plan}
use Rattle.hq_certtext.specs.Printing.{IsReady}
use Rattle.hq_judging.specs.Giving.{PrintsSuch}
use Rattle.hq_judging.specs.Places.{IsPlace, IsTextBetween, start_place}
use Rattle.hq_judging.proofs.giving_wide.print_body_wide.Given as goal

abbrev pub invariant-loop-turn : goal.invariant-loop-turn
invariant-loop-turn g l = record {
  ready : IsReady l.printer;
  place : IsPlace l.audited l.at;
  prints : PrintsSuch (IsTextBetween (plan l.job) l.audited start_place l.at) (g.W.Write.contents l.fn.writer) l.fn.printer (g.W.Write.contents l.writer) l.printer;
}
