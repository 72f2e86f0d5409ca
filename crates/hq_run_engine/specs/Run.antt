-- What `run` writes.
use Rattle.std.specs.Prelude.{ℕ, ◌<◌, List, [], ◌++◌, Option, Some, None, codes, length}
use Rattle.std.specs.Fmt.{decimal}
use Rattle.hq_job.specs.Plan.{plan}
use Rattle.hq_job.specs.Value.{JobValue}
use Rattle.hq_events.specs.declared.event.Event.{Event}
use Rattle.hq_runner.specs.Journals.{IsOneByOne, IsWhole}
use Rattle.hq_runner.specs.declared.outcome.RunFault.{RunFault}
use Rattle.hq_runner.specs.declared.outcome.RunFault.TheVariants as fault
use Rattle.hq_timeline.specs.Printed.{text_of}
use Rattle.hq_judging.specs.Audit.{NotOrdered}
use Rattle.hq_engines.specs.Buffers.{buffers_text}
use Rattle.hq_status.specs.Reports.{with_feed}
use Rattle.hq_status.specs.declared.status.RunFailure.{RunFailure}
use Rattle.hq_status.specs.declared.status.RunFailure.TheVariants as failure
use Rattle.hq_status.specs.declared.status.Status.{Status}
use Rattle.hq_status.specs.declared.status.Status.TheVariants.{Done, RunFailed}

-- ---- the lines

-- the word for why a run was stopped, with the packet where a body failed
abbrev pub failure_name : RunFailure → List ℕ
failure_name (failure.Kernel packet) = codes "Kernel " ++ decimal packet
failure_name failure.Split = codes "Split"
failure_name (failure.Receipts queue) = codes "Receipts"
failure_name failure.Unfinished = codes "Unfinished"

-- that a run met a fault, and which
abbrev pub failure_text : RunFailure → List ℕ
failure_text found = codes "run fault " ++ failure_name found

-- the failure that a run's fault is, if it isn't that memory ran out
abbrev pub failure_of : RunFault → Option RunFailure
failure_of fault.Memory = None
failure_of (fault.Kernel packet home lost found) = Some (failure.Kernel packet)
failure_of fault.Split = Some failure.Split
failure_of (fault.Receipts queue) = Some (failure.Receipts queue)
failure_of fault.Unfinished = Some failure.Unfinished

-- a packet that the failure names is the job's
abbrev pub NamesPacket : JobValue → RunFailure → Type 0
NamesPacket job (failure.Kernel packet) = packet < length job.packets
NamesPacket job other = Unit {0}

-- ---- the report

-- What is written of a job to the timeline's writer and as the answer. A run that completes all: its timeline, and
-- the buffers as every order of one packet at a time leaves them which keeps the job's order. Else no timeline, and
-- why the job isn't ordered, or why the run was stopped.
pub data RunReport (job : JobValue) : List ℕ → List ℕ → Status → Type 0 where
  ran : (events : List Event) (memory : List ℕ) → IsWhole (plan job) events memory → IsOneByOne (plan job) memory
      → RunReport job (text_of events) (buffers_text job.buffers memory) Done
  not_ordered : {out : List ℕ} {status : Status} → NotOrdered (plan job) out status → RunReport job [] out status
  stopped : (found : RunFailure) → NamesPacket job found
      → RunReport job [] (with_feed (failure_text found)) (RunFailed found)
