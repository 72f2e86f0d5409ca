use Rattle.std.proofs.Common.{◌≡◌, false, true, refl, sym, subst}
use Rattle.hq_job.specs.Plan.{plan}
use Rattle.hq_runner.specs.Outcomes.{Agrees, IsFirstWrong, OnReceipts}
use Rattle.hq_runner.proofs.Endings.{where_ok}
use Rattle.hq_runner.proofs.finish.compare.Goals as goal

pub returns-in-Ok-clause-ok : goal.returns-in-Ok-clause-ok
returns-in-Ok-clause-ok g c =
    let host = c.args.host.now.events.items in
    where_ok c.leave.result (subst (λ j. Agrees j c.args.hall host c.args.all.items) c.job.ensures
    (subst (λ xs. Agrees c.job.result.now c.args.hall host xs) c.deref.ensures.value (c.in-Ok.ensures.ok.0 refl)))

pub returns-in-Err-clause-agrees : goal.returns-in-Err-clause-agrees
returns-in-Err-clause-agrees g c = λ agrees.
    let host = c.args.host.now.events.items in
    let ok : false ≡ true = c.in-Err.ensures.ok.1 (subst (λ xs. Agrees c.job.result.now c.args.hall host xs) (sym c.deref.ensures.value)
    (subst (λ j. Agrees j c.args.hall host c.args.all.items) (sym c.job.ensures) agrees)) in
    cc

pub returns-in-Err-clause-receipts : goal.returns-in-Err-clause-receipts
returns-in-Err-clause-receipts g c =
    let host = c.args.host.now.events.items in
    subst (λ j. OnReceipts c.in-Err.fault (IsFirstWrong (plan j) c.args.hall.events host c.args.all.items)) c.job.ensures
    (subst (λ xs. OnReceipts c.in-Err.fault (IsFirstWrong (plan c.job.result.now) c.args.hall.events host xs)) c.deref.ensures.value c.in-Err.ensures.receipts)
