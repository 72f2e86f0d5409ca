-- Runs of numbers that are gone through from one within on.
use Rattle.std.specs.Prelude.{ℕ, ◌+◌, ◌-◌, ◌≤◌, if◌then◌else◌, nat_lt}
use Rattle.hq_fence.specs.declared.circuit.Circuit.{Circuit}
use Rattle.hq_job.specs.Access.{AreOfQueue}
use Rattle.hq_model.specs.Job.{Job, packet}
use Rattle.hq_model.specs.declared.limits.TheConstants.{PACKETS}

-- It begins within, and its numbers are those of packets.
pub record IsCircuit (circuit : Circuit) : Type 0 where
  pub above : circuit.start ≤ circuit.first
  pub below : circuit.first ≤ circuit.end
  pub few : circuit.end ≤ PACKETS

-- the number that comes in a turn, from 0
abbrev pub number_at : Circuit → ℕ → ℕ
number_at circuit turn = if nat_lt (circuit.first + turn) circuit.end then circuit.first + turn
    else circuit.first + turn - (circuit.end - circuit.start)

-- The numbers are those of the packets of p's queue.
pub record IsQueueOf (job : Job) (p : ℕ) (circuit : Circuit) : Type 0 where
  pub is_circuit : IsCircuit circuit
  pub are : AreOfQueue job (packet job p).queue circuit.start circuit.end
