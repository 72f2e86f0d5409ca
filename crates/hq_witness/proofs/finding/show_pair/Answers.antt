use Rattle.hq_job.specs.Plan.{plan}
use Rattle.hq_witness.proofs.Bytes.{written_within}
use Rattle.hq_witness.proofs.finding.show_pair.Goals as goal

pub attempt-requires : goal.attempt-requires
attempt-requires c =
    let t = c.args.target in
    let b = c.loop-byte.byte in
    written_within (plan c.args.job.now) c.valid.ensures.valid t.kind t.p t.r b ((c.bytes-bytes.ensures b).0 (c.loop-byte.auto.byte, c.loop-byte-test.true))
