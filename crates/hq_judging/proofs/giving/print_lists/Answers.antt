use Rattle.std.proofs.Common.{◌≡◌, ◌+◌, subst, arith}
use Rattle.hq_job.specs.Plan.{plan}
use Rattle.hq_audit.specs.Audited.{list_in}
use Rattle.hq_judging.specs.Giving.{IsPairsText, PrintsSuch}
use Rattle.hq_judging.specs.Places.{IsListsText}
use Rattle.hq_judging.proofs.Audited.{such_none, such_both}
use Rattle.hq_judging.proofs.Places.{lists_none, lists_more}
use Rattle.hq_judging.proofs.giving.print_lists.Goals as goal

pub loop-list-init : goal.loop-list-init
loop-list-init g c =
    let job = plan c.args.job.now in
    let a = c.args.audited.now in
    let from = c.args.from in
    record { ready = c.requires.ready; prints = such_none (IsListsText job a from from) _ _ (lists_none job a from) }

pub loop-list-preserved : goal.loop-list-preserved
loop-list-preserved g c =
    let job = plan c.args.job.now in
    let a = c.args.audited.now in
    let from = c.args.from in
    let i = c.loop-list.list in
    record {
      ready = c.in_ok-print_list.ensures.ready;
      prints = such_both (IsListsText job a from i) (IsPairsText job a (list_in a i)) (IsListsText job a from (i + 1)) (λ t s h k. lists_more job a from i t s h k) c.loop-list.invariant.prints c.in_ok-print_list.ensures.prints;
    }

pub returns-clause-prints : goal.returns-clause-prints
returns-clause-prints g c =
    let contents = g.W.Write.contents in
    let job = plan c.args.job.now in
    let a = c.args.audited.now in
    let end : c.loop-list.list ≡ c.args.to = omega (arith, c.loop-list-test.false, c.requires.order) in
    subst (λ k. PrintsSuch (IsListsText job a c.args.from k) (contents c.args.writer.now) c.args.printer.now (contents c.loop-list.writer) c.loop-list.printer) end c.loop-list.invariant.prints
