use Rattle.std.proofs.Common.{sym, ◌∙◌, subst, map}
use Rattle.hq_cert.specs.View.{pair_of}
use Rattle.hq_job.specs.Plan.{plan}
use Rattle.hq_ordercheck.proofs.Options.{some_same}
use Rattle.hq_model.specs.Certificate.{PairHolds}
use Rattle.hq_certcheck.proofs.Saying.{meant_at}
use Rattle.hq_certcheck.specs.Concluded.{bare}
use Rattle.hq_certcheck.proofs.pairs.pair_line_holds.Goals as goal

pub returns : goal.returns
returns c =
    let item = pair_of c.index-pairs-k.result in
    let here = meant_at pair_of c.args.pairs.now c.args.k c.index-pairs-k.result c.requires c.index-pairs-k.is in (
      λ t pair e. subst (PairHolds (plan c.args.job.now) (map bare c.args.lines.now)) (some_same item pair (sym here ∙ e)) (c.pair_holds.ensures.0 t),
      λ h. c.pair_holds.ensures.1 (h item here),
    )
