use Rattle.hq_job.specs.Plan.{plan}
use Rattle.hq_witness.specs.Traces.{IsRecording}
use Rattle.hq_witness.proofs.recording.Recording.submit_all.Given as goal

abbrev pub invariant-loop : goal.invariant-loop
invariant-loop l = IsRecording (plan l.job) l.self
