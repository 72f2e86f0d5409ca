use Rattle.hq_cert.specs.View.{fences_of}
use Rattle.hq_certread.proofs.OnePass.{pair_ahead}
use Rattle.hq_certread.proofs.one_pass.pair.Goals as goal

pub returns : goal.returns
returns c =
    pair_ahead c.args.count c.args.text.now c.in_ok-rest.rest.now c.in_ok-p.rest.now c.in_ok-r.rest.now c.in_ok-fences.rest.now c.in_ok-p.p c.in_ok-r.r (fences_of c.in_ok-fences.fences)
    c.in_ok-rest.ensures.ahead c.in_ok-p.ensures.ahead c.in_ok-r.ensures.ahead c.in_ok-fences.ensures
