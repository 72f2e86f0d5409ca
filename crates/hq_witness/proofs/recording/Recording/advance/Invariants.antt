use Rattle.hq_job.specs.Plan.{plan}
use Rattle.hq_witness.specs.Traces.{IsRecording}
use Rattle.hq_witness.proofs.recording.Recording.advance.Given as goal

abbrev pub invariant-loop-queue : goal.invariant-loop-queue
invariant-loop-queue l = IsRecording (plan l.job) l.self
