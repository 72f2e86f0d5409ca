use Rattle.hq_job.specs.Plan.{plan}
use Rattle.hq_witness.specs.Traces.{IsRecording}
use Rattle.hq_witness.proofs.recording.Recording.push_lanes.Given as goal

abbrev pub invariant-loop-packet : goal.invariant-loop-packet
invariant-loop-packet l = IsRecording (plan l.job) l.self
