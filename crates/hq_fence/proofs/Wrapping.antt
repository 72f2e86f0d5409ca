-- Runs of numbers, gone through from one within on.
use Rattle.std.proofs.Common.{◌≡◌, ℕ, ◌+◌, ◌-◌, ◌<◌, ◌≤◌, inl, inr, sym, subst, arith, length}
use Rattle.std.proofs.lemmas.Bool.{cases_lt, cond-true, cond-false, lt-ltb, le-ltb}
use Rattle.hq_fence.specs.Circuits.{IsCircuit, IsQueueOf, number_at}
use Rattle.hq_job.specs.Access.{AreOfQueue}
use Rattle.hq_model.specs.Job.{Job, packet, IsPacket}
use Rattle.hq_fence.specs.declared.circuit.Circuit.{Circuit}

-- each number has its turn
pub record HasTurn (circuit : Circuit) (x : ℕ) : Type 0 where
  pub turn : ℕ
  pub low : turn < circuit.end - circuit.start
  pub is : number_at circuit turn ≡ x

pub has_turn : (circuit : Circuit) (x : ℕ) → IsCircuit circuit → circuit.start ≤ x → x < circuit.end → HasTurn circuit x
has_turn circuit x s above below = elim (cases_lt x circuit.first) [
  | inl ahead ↦
      let turn : ℕ = x + (circuit.end - circuit.start) - circuit.first in
      let first : circuit.first ≤ circuit.end = s.below in
      let past : circuit.end ≤ circuit.first + turn = omega arith in
      record { turn = turn; low = omega arith; is = rw (cond-false _ _ _ (le-ltb _ _ past)) (omega arith) }
  | inr behind ↦
      let turn : ℕ = x - circuit.first in
      let inside : circuit.first + turn < circuit.end = omega arith in
      let start : circuit.start ≤ circuit.first = s.above in
      record { turn = turn; low = omega arith; is = rw (cond-true _ _ _ (lt-ltb _ _ inside)) (omega arith) }
]

-- what holds at no turn holds of no number
pub none_within : (circuit : Circuit) (Good : ℕ → Type 0) (n : ℕ) → IsCircuit circuit → circuit.end - circuit.start ≤ n → ((k : ℕ) → k < n → Good (number_at circuit k) → ⊥) → (x : ℕ) → circuit.start ≤ x → x < circuit.end → Good x → ⊥
none_within circuit Good n s l none x above below good =
    let t = has_turn circuit x s above below in
    let low : t.turn < n = omega (arith, t.low) in
    none t.turn low (subst Good (sym t.is) good)

-- and of no packet of the queue
pub none_in_queue :
    (job : Job) (p : ℕ) (queue circuit : Circuit) (Good : ℕ → Type 0) (n : ℕ)
    → IsQueueOf job p queue → IsCircuit circuit → circuit.start ≡ queue.start → circuit.end ≡ queue.end → circuit.end - circuit.start ≤ n
    → ((k : ℕ) → k < n → Good (number_at circuit k) → ⊥)
    → (x : ℕ) → IsPacket job x → (packet job x).queue ≡ (packet job p).queue → Good x → ⊥
none_in_queue job p queue circuit Good n q s start end l none x is same good =
    let w = q.are.within x is same in
    let above : circuit.start ≤ x = omega (arith, w.0) in
    let below : x < circuit.end = omega (arith, w.1) in
    none_within circuit Good n s l none x above below good

pub queue_circuit : (job : Job) (p queue start stop : ℕ) → IsPacket job p → length job.packets ≤ 1024 → (packet job p).queue ≡ queue → AreOfQueue job queue start stop → IsQueueOf job p (record { start = start; first = p; end = stop })
queue_circuit job p queue start stop is few same of =
    let inside = of.within p is same in
    let above : start ≤ p = inside.0 in
    let below : p < stop = inside.1 in
    let last : IsPacket job (stop - 1) = (of.of_queue (stop - 1) (omega arith) (omega arith)).0 in
    record {
      is_circuit = record { above = above; below = omega arith; few = omega (arith, last, few) };
      are = subst (λ k. AreOfQueue job k start stop) (sym same) of;
    }
