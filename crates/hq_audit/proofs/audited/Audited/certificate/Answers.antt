use Rattle.std.proofs.Common.{◌∙◌, subst}
use Rattle.hq_job.specs.Plan.{plan}
use Rattle.hq_audit.specs.Audited.{order_in, lines_in}
use Rattle.hq_audit.specs.Paired.{pairs_of, ArePairsOf}
use Rattle.hq_audit.specs.Drafted.{listed}
use Rattle.hq_audit.proofs.Certifying.{audited_certifies, cert_same}
use Rattle.hq_audit.proofs.audited.Audited.certificate.Goals as goal

pub returns : goal.returns
returns c =
    let job = plan c.args.job.now in
    let a = c.args.self in
    let pairs = pairs_of c.in_ok-pairs.pairs in
    cert_same job c.new.result (order_in a) (lines_in a) pairs c.new.ensures.order (c.new.ensures.lines ∙ c.in_ok-lines.ensures) c.new.ensures.pairs
    (audited_certifies job a pairs c.requires (subst (λ lists. ArePairsOf job (lines_in a) (listed lists) pairs) c.deref.ensures.value c.in_ok-pairs.ensures))
