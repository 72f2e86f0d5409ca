-- What a job's calls answer beside its tables.
use Rattle.std.specs.Prelude.{◌≡◌, ℕ, ◌+◌, ◌<◌, ◌≤◌, List, length, Some, slice_get, slice_index}
use Rattle.hq_model.specs.Job.{Job, packet, IsPacket, place_in_queue}
use Rattle.hq_tables.specs.declared.rows.Placed.{Placed}

-- packet p stands in this queue, at this place of it
pub record StandsAt (job : Job) (queue place p : ℕ) : Type 0 where
  pub is_packet : IsPacket job p
  pub queue_is : (packet job p).queue ≡ queue
  pub place_is : place_in_queue job p ≡ place

-- The same by the numbers of the queues' first packets: p is as far behind its queue's first, and of that queue.
pub record LiesAt (firsts : List ℕ) (packets : List Placed) (queue place p : ℕ) : Type 0 where
  pub below : queue < length firsts
  pub number_is : p ≡ slice_index firsts queue + place
  pub row : Placed
  pub there : slice_get packets p ≡ Some row
  pub queue_is : row.queue ≡ queue

-- the queue's packets are those of the numbers from start up to, but not with, stop
pub record AreOfQueue (job : Job) (queue start stop : ℕ) : Type 0 where
  pub within : (p : ℕ) → IsPacket job p → (packet job p).queue ≡ queue → (start ≤ p) × (p < stop)
  pub of_queue : (p : ℕ) → start ≤ p → p < stop → IsPacket job p × ((packet job p).queue ≡ queue)
