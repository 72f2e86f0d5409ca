use Rattle.hq_job.specs.Plan.{plan}
use Rattle.hq_model.specs.Job.{IsPacket}
use Rattle.hq_explain.specs.Explained.{AreTwo}
use Rattle.hq_explain.proofs.Trying.{not_when}
use Rattle.hq_explain.proofs.Whole.{apart_said, beyond_said, two_said}
use Rattle.hq_explain.proofs.explaining.explain_pair.Goals as goal

pub returns-then-not-are_packets-clause-said : goal.returns-then-not-are_packets-clause-said
returns-then-not-are_packets-clause-said g c =
    let before = c.in_ok-before.before in
    beyond_said (g.W.Write.contents c.args.writer.now) (g.W.Write.contents c.write_beyond.new.writer) c.args.job.now (plan c.args.job.now) before c.args.p c.args.r c.len.result c.in_ok-before.ensures.plan c.len.ensures
    (not_when c.are_packets.result (IsPacket before c.args.p × IsPacket before c.args.r) c.are_packets.ensures c.if-not-are_packets.true) c.in_ok-write_beyond.ensures

pub returns-then-not-are_two-clause-said : goal.returns-then-not-are_two-clause-said
returns-then-not-are_two-clause-said g c =
    let before = c.in_ok-before.before in
    apart_said (g.W.Write.contents c.args.writer.now) (g.W.Write.contents c.write_apart.new.writer) c.args.job.now (plan c.args.job.now) before c.args.p c.args.r c.in_ok-before.ensures.plan
    (c.are_packets.ensures.0 c.if-not-are_packets.false) (not_when c.are_two.result (AreTwo before c.args.p c.args.r) c.are_two.ensures c.if-not-are_two.true) c.in_ok-write_apart.ensures

pub returns-clause-said : goal.returns-clause-said
returns-clause-said g c =
    let before = c.in_ok-before.before in
    two_said (g.W.Write.contents c.args.writer.now) (g.W.Write.contents c.write_pair.new.writer) c.args.job.now (plan c.args.job.now) before c.args.p c.args.r c.in_ok-ordered.ordered c.found_if.result
    c.in_ok-before.ensures.plan c.found_if.ensures (c.are_two.ensures.0 c.if-not-are_two.false) c.in_ok-ordered.ensures.said
