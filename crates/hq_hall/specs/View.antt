-- A hall as its callers see it.
use Rattle.std.specs.Prelude.{◌≡◌, ℕ, ◌+◌, ◌<◌, ◌↔◌, [], List, All, Some, false, length, take, slice_index}
use Rattle.std.specs.Prelude.{slice_index_or}
use Rattle.std.specs.List.{flat_map}
use Rattle.hq_certcheck.specs.View.{AcceptedJob}
use Rattle.hq_footprint.specs.Tasks.{result_of}
use Rattle.hq_footprint.specs.declared.footprint.Range.{Range}
use Rattle.hq_footprint.specs.declared.footprint.Work.{Work as WorkValue}
use Rattle.hq_footprint.specs.declared.task.Task.{Task}
use Rattle.hq_footprint.specs.Counts.{reads_of, writes_of}
use Rattle.hq_job.specs.Plan.{plan}
use Rattle.hq_tables.specs.declared.rows.Placed.{Placed}
use Rattle.hq_ledger.specs.Grants.{IsOut}
use Rattle.hq_ledger.specs.Pieces.{Part}
use Rattle.hq_ledger.specs.Trays.{TrayValue}
use Rattle.hq_ledger.specs.declared.grants.Grant.{Grant}
use Rattle.hq_events.specs.declared.event.Event.{Event}
use Rattle.hq_machine.specs.Enabled.{Possible}
use Rattle.hq_machine.specs.State.{StateValue}
use Rattle.hq_machine.specs.View.{state_of}
use Rattle.hq_model.specs.Job.{Job, packet}
use Rattle.hq_model.specs.Job.Kind.{Work}
use Rattle.hq_model.specs.Journal.Coarse.{Fetch, Deliver, Complete}
use Rattle.hq_model.specs.Machine.{State, AllRead}
use Rattle.hq_model.specs.Machine.Phase.{Active}
use Rattle.hq_hall.specs.declared.fault.HallFault.{HallFault}
use Rattle.hq_hall.specs.declared.fault.HallFault.TheVariants as fault
use Rattle.hq_hall.specs.declared.stage.Stage.{Stage}
use Rattle.hq_hall.specs.declared.stage.Stage.TheVariants as stage
use Rattle.hq_hall.specs.Handing.{first_read, foot_of, second_read, work_of}
use Rattle.hq_hall.specs.Histories.{HistoryValue, Moves, plan_of}
use Rattle.hq_hall.specs.Stages.{stage_of}

-- the accepted job, the state that its run has come to, and the events that led there; the packets whose ranges are
-- out; and what is known of the pieces that came home by being dropped
pub record HallValue : Type 0 where
  pub job : AcceptedJob
  pub state : StateValue
  pub events : List Event
  pub out : List Grant
  pub home : TrayValue

-- the job as the definitions have it
abbrev pub job_of : HallValue → Job
job_of hall = plan hall.job.job

-- the run so far: the job, the state that it has come to, and the events that led there
abbrev pub run_of : HallValue → HistoryValue
run_of hall = record { job = hall.job; state = hall.state; events = hall.events }

-- the state that the run has come to, as the definitions of the machine have it
abbrev pub state_in : HallValue → State
state_in hall = state_of (job_of hall) hall.state

-- the work of packet p, in addresses
abbrev pub work_in : HallValue → ℕ → WorkValue
work_in hall p = work_of hall.job.job.packets p

-- ---- what the hall keeps

-- A packet that is out: it is work, is active and has read all.
pub record IsAway (job : Job) (state : State) (p : ℕ) : Type 0 where
  pub work : (packet job p).kind ≡ Work
  pub active : state.phase p ≡ Active
  pub read : AllRead job state p

-- Exactly the packets that were fetched and not yet delivered are out, each with its own footprint.
pub record Stands (packets : List Placed) (events : List Event) (state : State) (out : List Grant) (stages : List Stage)
    (job : Job) : Type 0 where
  pub count : length stages ≡ length packets
  pub stage_is : (p : ℕ) → p < length packets → slice_index_or stages p stage.Unfetched ≡ stage_of events p
  pub are_out : (p : ℕ) → IsOut out p ↔ ((p < length packets) × (stage_of events p ≡ stage.Out))
  pub feet : All (λ grant. grant.foot ≡ foot_of packets grant.packet) out
  pub away : (p : ℕ) → stage_of events p ≡ stage.Out → IsAway job state p
  -- a packet that wasn't delivered has stored nothing
  pub fresh : (p : ℕ) → (stage_of events p ≡ stage.Delivered → ⊥) → (i : ℕ) → state.stored p i ≡ false

-- The same of a run, these grants and stages, and a tray for so many packets.
abbrev pub Stood : HistoryValue → List Grant → List Stage → ℕ → Type 0
Stood h out stages packets = Stands h.job.job.packets h.events (state_of (plan_of h) h.state) out stages (plan_of h)
    × (packets ≡ length h.job.job.packets)

-- ---- what a call does

-- The event happened, and it alone.
pub record Adds (old : HallValue) (event : Event) (new : HallValue) : Type 0 where
  pub moves : Moves (run_of old) event (run_of new)
  pub home : new.home ≡ old.home

-- The event happened, and the same packets are out.
pub record AddsAlone (old : HallValue) (event : Event) (new : HallValue) : Type 0 where
  pub adds : Adds old event new
  pub out : new.out ≡ old.out

-- packet p may be fetched as far as the hall knows: it is work, is active and wasn't fetched yet
pub record IsReady (hall : HallValue) (p : ℕ) : Type 0 where
  pub is_packet : p < length hall.job.job.packets
  pub work : (packet (job_of hall) p).kind ≡ Work
  pub active : (state_in hall).phase p ≡ Active
  pub fresh : stage_of hall.events p ≡ stage.Unfetched

-- what the fetch of packet p asks
pub record MayFetch (hall : HallValue) (p : ℕ) : Type 0 where
  pub ready : IsReady hall p
  pub enabled : Possible (job_of hall) hall.state (Fetch p)

-- what its delivery asks
pub record MayDeliver (hall : HallValue) (p : ℕ) : Type 0 where
  pub out : stage_of hall.events p ≡ stage.Out
  pub enabled : Possible (job_of hall) hall.state (Deliver p)

-- what its completion asks: a kernel or agent packet was delivered
pub record MayComplete (hall : HallValue) (p : ℕ) : Type 0 where
  pub delivered : (packet (job_of hall) p).kind ≡ Work → stage_of hall.events p ≡ stage.Delivered
  pub enabled : Possible (job_of hall) hall.state (Complete p)

-- what stands where there is no piece
abbrev pub no_piece : Part
no_piece = record { packet = 0; place = 0; at = 0; bytes = [] }

-- the piece at this place, counted from 0, if there is one
abbrev pub piece_at : List Part → ℕ → Part
piece_at pieces k = slice_index_or pieces k no_piece

-- The piece is packet p's in place k, of this range.
pub record IsPieceOf (p k : ℕ) (range : Range) (part : Part) : Type 0 where
  pub packet : part.packet ≡ p
  pub place : part.place ≡ k
  pub at : part.at ≡ range.at
  pub len : length part.bytes ≡ range.len

-- It is so, and holds the bytes that p has read as its entries from `first` on.
pub record IsReadPiece (state : State) (p k : ℕ) (range : Range) (first : ℕ) (part : Part) : Type 0 where
  pub is : IsPieceOf p k range part
  pub bytes : (i : ℕ) → i < range.len → state.read p (first + i) ≡ Some (slice_index part.bytes i)

-- These are the pieces of packet p with this work, in order: those of the ranges that its task reads, which hold
-- what it has read, and behind them that of the range that it writes.
pub record ArePieces (state : State) (p : ℕ) (work : WorkValue) (pieces : List Part) : Type 0 where
  pub count : length pieces ≡ reads_of work.task + writes_of work.task
  pub first : 0 < reads_of work.task → IsReadPiece state p 0 (first_read work) 0 (piece_at pieces 0)
  pub second : 1 < reads_of work.task
      → IsReadPiece state p 1 (second_read work) (first_read work).len (piece_at pieces 1)
  pub written : 0 < writes_of work.task
      → IsPieceOf p (reads_of work.task) work.foot.write (piece_at pieces (reads_of work.task))

-- the bytes of the pieces that a task reads, end to end
abbrev pub bytes_among : Task → List Part → List ℕ
bytes_among task pieces = flat_map (λ part. part.bytes) (take (reads_of task) pieces)

-- Where these are p's pieces, the one that is written holds what p's task makes of the bytes of those that are read.
pub record AreDone (hall : HallValue) (p : ℕ) (pieces : List Part) : Type 0 where
  pub task : ArePieces (state_in hall) p (work_in hall p) pieces → 0 < writes_of (work_in hall p).task
      → (piece_at pieces (reads_of (work_in hall p).task)).bytes ≡ result_of (work_in hall p).task
      (work_in hall p).foot.write.len (bytes_among (work_in hall p).task pieces)

-- Why a delivery was refused: it may not come yet or any more, or these aren't the packet's pieces, or there is no
-- memory.
abbrev pub NotDelivered : HallValue → ℕ → List Part → HallFault → Type 0
NotDelivered hall p pieces fault.NotEnabled = MayDeliver hall p → ⊥
NotDelivered hall p pieces fault.WrongPieces = MayDeliver hall p
    × (ArePieces (state_in hall) p (work_in hall p) pieces → ⊥)
NotDelivered hall p pieces fault.Memory = Unit {0}
