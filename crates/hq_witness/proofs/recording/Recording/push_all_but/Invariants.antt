use Rattle.hq_job.specs.Plan.{plan}
use Rattle.hq_witness.specs.Traces.{IsRecording}
use Rattle.hq_witness.proofs.recording.Recording.push_all_but.Given as goal

abbrev pub invariant-loop-byte : goal.invariant-loop-byte
invariant-loop-byte l = IsRecording (plan l.job) l.self
