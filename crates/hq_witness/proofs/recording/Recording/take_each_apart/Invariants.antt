use Rattle.hq_job.specs.Plan.{plan}
use Rattle.hq_witness.specs.Traces.{IsRecording}
use Rattle.hq_witness.proofs.recording.Recording.take_each_apart.Given as goal

abbrev pub invariant-loop-number : goal.invariant-loop-number
invariant-loop-number l = IsRecording (plan l.job) l.self
