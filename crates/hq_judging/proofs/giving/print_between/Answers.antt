use Rattle.std.proofs.lemmas.Result.{on_ok_weaker}
use Rattle.hq_job.specs.Plan.{plan}
use Rattle.hq_judging.specs.Giving.{IsLinesText}
use Rattle.hq_judging.specs.Places.{IsListsText, IsTextBetween}
use Rattle.hq_judging.proofs.Audited.{such_both}
use Rattle.hq_judging.proofs.Places.{parts_between}
use Rattle.hq_judging.proofs.giving.print_between.Goals as goal

pub returns-clause-prints : goal.returns-clause-prints
returns-clause-prints g c = on_ok_weaker c.print_lists.result (λ h.
    let job = plan c.args.job.now in
    let a = c.args.audited.now in
    let p = c.args.from in
    let q = c.args.to in
    such_both (IsLinesText a p.line q.line) (IsListsText job a p.list q.list) (IsTextBetween job a p q) (λ t s h k. parts_between job a p q t s c.requires.places h k) c.in_ok-print_lines.ensures.prints h) c.print_lists.ensures.prints
