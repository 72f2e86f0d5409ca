use Rattle.std.proofs.Common.{◌≡◌, ◌∙◌, ap, sym, subst, length}
use Rattle.std.proofs.lemmas.Result.{IfErr-weaker, IfOk-weaker}
use Rattle.hq_job.specs.Plan.{plan}
use Rattle.hq_job.specs.Heads.{heads_of, job_with_heads}
use Rattle.hq_job.specs.Value.{JobValue}
use Rattle.hq_audit.specs.Refused.{IsRefused}
use Rattle.hq_engines.specs.Change.{IsChanged, judged_job}
use Rattle.hq_engines.proofs.Changes.{heads_count}
use Rattle.hq_engines.proofs.change.text_changed.Goals as goal

pub with_text-requires-clause-count : goal.with_text-requires-clause-count
with_text-requires-clause-count g c =
    heads_count c.args.aim c.in_ok-copy.copy c.in_ok-changed.changed c.in_ok-changed.ensures.changed ∙ ap (λ (j : JobValue). length j.packets) c.in_ok-copy.ensures

pub with_text-requires-clause-heads : goal.with_text-requires-clause-heads
with_text-requires-clause-heads g c =
    let new = c.in_ok-changed.changed in
    subst (λ (j : JobValue). job_with_heads j (heads_of new) ≡ new) c.in_ok-copy.ensures c.in_ok-changed.ensures.heads

pub returns-clause-changed : goal.returns-clause-changed
returns-clause-changed g c =
    let aim = c.args.aim in
    let old = plan c.args.job.now in
    let is = subst (λ (j : JobValue). IsChanged aim (plan j) (plan c.in_ok-changed.changed)) c.in_ok-copy.ensures c.in_ok-changed.ensures.changed in
    IfOk-weaker c.with_text.result _ _ (λ it same. subst (λ (k : JobValue). IsChanged aim old (plan k)) (sym same) is) c.with_text.ensures.job

pub returns-clause-refused : goal.returns-clause-refused
returns-clause-refused g c =
    IfErr-weaker c.with_text.result _ _ (λ no memory. subst (IsRefused (judged_job c.args.aim (plan c.args.job.now))) (sym memory) tt) c.with_text.ensures.memory
