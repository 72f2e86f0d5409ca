use Rattle.std.proofs.Common.{◌≡◌, ◌∙◌, ap, sym, subst, length, List, [], replicate}
use Rattle.hq_certcheck.specs.View.{AcceptedJob}
use Rattle.hq_job.specs.Value.{JobValue}
use Rattle.hq_ledger.specs.declared.grants.Grant.{Grant}
use Rattle.hq_hall.specs.declared.stage.Stage.{Stage}
use Rattle.hq_hall.specs.declared.stage.Stage.TheVariants as stage
use Rattle.hq_hall.specs.View.{Stood}
use Rattle.hq_hall.proofs.Keeping.{open_stood}
use Rattle.hq_hall.proofs.hall.Hall.open.Goals as goal

pub invariant_of-result : goal.invariant_of-result
invariant_of-result c =
    let h = c.in_ok-history.history in
    let n = c.in_ok-open.field-0.packets in
    let packets : length c.packets-packets.result.now ≡ length h.job.job.packets =
    ap length c.packets-packets.ensures ∙ ap (λ (v : JobValue). length v.packets) c.job-job.ensures ∙ ap (λ (j : AcceptedJob). length j.job.packets) (sym c.in_ok-history.ensures.opened.0) in
    let stages : c.in_ok-unfetched.field-0.items ≡ replicate (length h.job.job.packets) stage.Unfetched = c.in_ok-unfetched.ensures ∙ ap (λ m. replicate m stage.Unfetched) packets in
    subst (λ (out : List Grant). Stood h out c.in_ok-unfetched.field-0.items n) (sym c.new.ensures)
    (subst (λ (ss : List Stage). Stood h [] ss n) (sym stages) (open_stood h n c.run_so_far.ensures c.in_ok-history.ensures.opened.1 (c.in_ok-open.ensures.0 ∙ packets)))
