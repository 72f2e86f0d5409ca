use Rattle.std.proofs.Common.{refl, subst, sym}
use Rattle.hq_job.specs.Plan.{plan}
use Rattle.hq_witness.specs.Witness.{IsNo}
use Rattle.hq_engines.specs.Recording.{contents_in}
use Rattle.hq_judging.proofs.Audits.{no_reported}
use Rattle.hq_engines.proofs.Witnesses.{no_witness_reported, ordered_reported, refused_of}
use Rattle.hq_engines.proofs.witness.witness_engine.Goals as goal

pub returns-in-Some : goal.returns-in-Some
returns-in-Some g c =
    no_witness_reported c.args.job.now (record { good = contents_in g.T.Write.contents c.args.good.now; bad = contents_in g.T.Write.contents c.args.bad.now; answer = g.W.Write.contents c.args.writer.now }) (record { good = contents_in g.T.Write.contents c.args.good.now; bad = contents_in g.T.Write.contents c.args.bad.now; answer = g.W.Write.contents c.say_no_certificate.new.writer }) c.say_no_certificate.result refl refl
    (no_reported c.stuck_exactly.ensures (plan c.args.job.now) c.valid.ensures.valid c.in-Some.refusal _ _ c.say_no_certificate.result (refused_of (plan c.args.job.now) c.in-Some.refusal (subst (IsNo (plan c.args.job.now)) (sym c.in-Some.ensures) c.in-Err.ensures.no)) c.say_no_certificate.ensures)

pub returns-in-None : goal.returns-in-None
returns-in-None g c = ordered_reported c.args.job.now (record { good = contents_in g.T.Write.contents c.args.good.now; bad = contents_in g.T.Write.contents c.args.bad.now; answer = g.W.Write.contents c.args.writer.now }) (record { good = contents_in g.T.Write.contents c.args.good.now; bad = contents_in g.T.Write.contents c.args.bad.now; answer = g.W.Write.contents c.say.new.writer }) c.say.result (subst (IsNo (plan c.args.job.now)) c.in-None.ensures c.in-Err.ensures.no) refl refl c.say.ensures
