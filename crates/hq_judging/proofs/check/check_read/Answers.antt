use Rattle.std.proofs.Common.{ap}
use Rattle.hq_judging.proofs.WhileRead.{known_found}
use Rattle.hq_judging.proofs.Checks.{certificate_missing}
use Rattle.hq_judging.proofs.check.check_read.Goals as goal

pub check_found-requires-clause-seen : goal.check_found-requires-clause-seen
check_found-requires-clause-seen g c κs lives = let h = c.in-Ok.ensures.found.1 in (h.so.whole, h.so.order, h.so.seen)

pub returns-in-Err : goal.returns-in-Err
returns-in-Err g c = certificate_missing _ g.S.Read.remaining c.args.certificate.now c.take_certificate.new.reader c.args.job _ _ c.in-Err.status c.in-Err.ensures.refused

pub returns-in-Ok : goal.returns-in-Ok
returns-in-Ok g c =
    known_found _ g.S.Read.remaining c.args.certificate.now c.take_certificate.new.reader c.args.job c.in-Ok.known _ _ _ c.check_found.result c.in-Ok.ensures.found.0 c.in-Ok.ensures.found.1 (ap g.W.Write.contents c.in-Ok.ensures.unwritten) c.check_found.ensures
