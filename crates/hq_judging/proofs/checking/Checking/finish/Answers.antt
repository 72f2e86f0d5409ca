use Rattle.std.proofs.Common.{refl}
use Rattle.std.proofs.lemmas.Result.{err_from_is_err_and}
use Rattle.hq_judging.proofs.WhileRead.{known_of}
use Rattle.hq_judging.proofs.checking.Checking.finish.Goals as goal

pub returns : goal.returns
returns c from lines h = known_of from c.args.self lines _ h refl refl c.in_ok-certificate.ensures.parts (c.in_ok-certificate.ensures.read lines h.front h.gone h.taken)

pub returns-in_err-certificate : goal.returns-in_err-certificate
returns-in_err-certificate c =
    let p = err_from_is_err_and c.from_residual.result c.from_residual.ensures.1 in
    rw (p.1, p.2) (λ from lines h. c.in_err-certificate.ensures.read lines h.front h.gone h.taken)
