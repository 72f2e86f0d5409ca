use Rattle.std.proofs.Common.{◌∙◌, ap, subst, map}
use Rattle.std.proofs.lemmas.Result.{on_ok_weaker}
use Rattle.hq_cert.specs.View.{pair_of}
use Rattle.hq_job.specs.Plan.{plan}
use Rattle.hq_certcheck.specs.Concluded.{bare}
use Rattle.hq_certcheck.specs.Listed.{BadPairIs}
use Rattle.hq_certcheck.specs.Seen.{SeenValue}
use Rattle.hq_certcheck.proofs.seen.Seen.take_pairs.Goals as goal

pub returns : goal.returns
returns c =
    let pairs = map pair_of c.args.pairs.now in
    on_ok_weaker c.put.result
    (λ put lines before left h. put (plan c.args.job.now) lines before left h
    (subst (λ ls. BadPairIs (plan c.args.job.now) (map bare ls) pairs c.first_bad_pair-bad.result) (c.deref.ensures.value ∙ ap (λ (s : SeenValue). s.lines) c.self.view_is) c.first_bad_pair-bad.ensures))
    c.put.ensures
