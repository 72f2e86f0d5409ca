use Rattle.std.proofs.Common.{ap, inl, inr}
use Rattle.hq_job.specs.Plan.{plan}
use Rattle.hq_model.specs.Job.{packet}
use Rattle.hq_witness.specs.Targets.{written_bytes}
use Rattle.hq_witness.proofs.Bytes.{told_as}
use Rattle.hq_witness.proofs.target.Target.bytes.Goals as goal

pub returns-in-WriteRead : goal.returns-in-WriteRead
returns-in-WriteRead c =
    let job = plan c.args.job.now in
    let t = c.args.self.now in
    told_as _ _ c.written.result.start c.written.result.end
    (elim c.in-WriteRead.is [
      | inl is ↦ ap (λ k. written_bytes k (packet job t.p) (packet job t.r)) is
      | inr is ↦ ap (λ k. written_bytes k (packet job t.p) (packet job t.r)) is
    ]) c.written.ensures

pub returns-in-ReadWrite : goal.returns-in-ReadWrite
returns-in-ReadWrite c =
    let job = plan c.args.job.now in
    let t = c.args.self.now in
    told_as _ _ c.written-in-ReadWrite.result.start c.written-in-ReadWrite.result.end
    (ap (λ k. written_bytes k (packet job t.p) (packet job t.r)) c.in-ReadWrite.is) c.written-in-ReadWrite.ensures
