use Rattle.std.proofs.Common.{◌≡◌, ◌↔◌, ◌∙◌, IsTrue, ap, subst}
use Rattle.hq_job.specs.Plan.{plan}
use Rattle.hq_model.specs.Settings.{head_at, with_head}
use Rattle.hq_audit.specs.Refused.{ShownOneWay}
use Rattle.hq_explain.proofs.Trying.{rounds_there, rounds_back, set_back, still_there}
use Rattle.hq_explain.proofs.scopes.Trial.is_ordered.Goals as goal

pub over-before-requires : goal.over-before-requires
over-before-requires c =
    let job = plan c.args.job.now in
    let p = c.args.p in
    let head = c.args.head in
    let new : plan c.set_head.new.self ≡ with_head job p head = c.set_head.ensures.plan ∙ ap (λ j. with_head j p head) c.requires.trial.same in
    rounds_there job (plan c.set_head.new.self) c.args.self.rounds p head c.requires.p_is c.requires.bit new c.requires.trial.rounds

pub set_head-requires-2 : goal.set_head-requires-2
set_head-requires-2 c =
    let job = plan c.args.job.now in
    let p = c.args.p in
    let head = c.args.head in
    still_there job c.set_head.new.self p head c.requires.p_is (c.set_head.ensures.plan ∙ ap (λ j. with_head j p head) c.requires.trial.same)

pub returns-clause-ordered : goal.returns-clause-ordered
returns-clause-ordered c =
    let job = plan c.args.job.now in
    let p = c.args.p in
    let head = c.args.head in
    let new : c.over-before.result ≡ with_head job p head = c.over-before.ensures ∙ c.set_head.ensures.plan ∙ ap (λ j. with_head j p head) c.requires.trial.same in
    subst (λ j. IsTrue c.is_ordered-ordered.result ↔ ShownOneWay j c.args.a c.args.b) new c.is_ordered-ordered.ensures

pub returns-clause-trial : goal.returns-clause-trial
returns-clause-trial c =
    let job = plan c.args.job.now in
    let p = c.args.p in
    let head = c.args.head in
    let new : plan c.set_head.new.self ≡ with_head job p head = c.set_head.ensures.plan ∙ ap (λ j. with_head j p head) c.requires.trial.same in
    let back : plan c.set_head-2.new.self ≡ with_head (with_head job p head) p (head_at job p) =
    c.set_head-2.ensures.plan ∙ ap (λ j. with_head j p c.head.result) new ∙ ap (with_head (with_head job p head) p) c.head.ensures in
    record {
      same = back ∙ set_back job p head c.requires.p_is;
      rounds = rounds_back job c.over-before.result c.into_rounds-rounds.result p head c.requires.p_is c.requires.bit (c.over-before.ensures ∙ new) c.into_rounds-rounds.ensures;
    }
