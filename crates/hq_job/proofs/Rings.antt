-- Where packets stand in their queues, and which free the slots of which.
use Rattle.std.proofs.Common.{◌≡◌, ℕ, zero, suc, ◌+◌, ◌-◌, ◌<◌, ◌≤◌, ◌↔◌, inl, inr, IsTrue, length, refl, take, count_by, eqb, sym, ◌∙◌, ap, arith}
use Rattle.std.proofs.lemmas.Bool.{cases_lt, eq-eqb, ne_eqb}
use Rattle.std.proofs.lemmas.List.Sums.{count_by_more_no, count_by_more_yes}
use Rattle.hq_model.specs.Job.{Job, packet, no_packet, IsPacket, Earlier, place_in_queue, size_of, Frees}
use Rattle.hq_model.specs.Theorems.{Valid}
use Rattle.hq_job.specs.Access.{AreOfQueue}

-- the first n packets that are of the queue: none up to its first, then each
counted : (job : Job) (q start stop : ℕ) → AreOfQueue job q start stop → stop ≤ length job.packets → (n : ℕ) → n ≤ stop → count_by (λ e. eqb e.queue q) (take n job.packets) ≡ n - start
counted job q start stop are within zero l = omega arith
counted job q start stop are within (suc n) l =
    let there : n < length job.packets = omega arith in
    let before = counted job q start stop are within n (omega arith) in
    let one : suc n ≡ n + 1 = omega arith in
    elim (cases_lt n start) [
      | inl low ↦
          let same = count_by_more_no (λ e. eqb e.queue q) job.packets n no_packet there (ne_eqb (packet job n).queue q (λ e. let h = are.within n there e in omega arith)) in
          ap (λ m. count_by (λ e. eqb e.queue q) (take m job.packets)) one ∙ same ∙ before ∙ omega arith
      | inr high ↦
          let more = count_by_more_yes (λ e. eqb e.queue q) job.packets n no_packet there (eq-eqb (packet job n).queue q (are.of_queue n high (omega arith)).1) in
          ap (λ m. count_by (λ e. eqb e.queue q) (take m job.packets)) one ∙ more ∙ ap (λ m. m + 1) before ∙ omega arith
    ]

pub stop_within : (job : Job) (q start stop : ℕ) → AreOfQueue job q start stop → start < stop → stop ≤ length job.packets
stop_within job q start stop are l = let h = (are.of_queue (stop - 1) (omega arith) (omega arith)).0 in omega arith

-- Within its queue a packet stands as far behind the first as its number says.
pub place_is : (job : Job) (q start stop p : ℕ) → AreOfQueue job q start stop → (packet job p).queue ≡ q → start ≤ p → p < stop → place_in_queue job p + start ≡ p
place_is job q start stop p are e low high =
    let h = counted job q start stop are (stop_within job q start stop are (omega arith)) p (omega arith) in
    let g : place_in_queue job p ≡ p - start = ap (λ r. count_by (λ x. eqb x.queue r) (take p job.packets)) e ∙ h in
    omega arith

-- those earlier than r are all from the first on
pub earlier_range : (job : Job) (queue start stop p r : ℕ) → AreOfQueue job queue start stop → (packet job r).queue ≡ queue → IsPacket job r → Earlier job p r ↔ ((p < r) × (start ≤ p))
earlier_range job queue start stop p r q e l = (
  λ f.
      let ahead : p < r = f.ahead in
      let packets : r < length job.packets = l in
      let there : p < length job.packets = omega arith in
      (ahead, (q.within p there (f.same_queue ∙ e)).0),
  λ h.
      let inside : r < stop = (q.within r l e).1 in
      record { ahead = h.0; is_packet = l; same_queue = (q.of_queue p h.1 (let ahead : p < r = h.0 in omega arith)).1 ∙ sym e },
)

-- Which packets have to be complete for p to have a slot.
pub frees_are : (job : Job) (start stop p : ℕ) → AreOfQueue job (packet job p).queue start stop → IsPacket job p → start ≤ p → p < stop → 0 < size_of job p → IsTrue job.rings → (e : ℕ) → Frees job e p ↔ ((start ≤ e) × (e < p + 1 - size_of job p))
frees_are job start stop p are there from to some rings e = (
  λ f.
      let ahead = f.earlier.ahead in
      let a = are.within e (omega arith) f.earlier.same_queue in
      let x = place_is job (packet job p).queue start stop p are refl from to in
      let y = place_is job (packet job p).queue start stop e are f.earlier.same_queue a.0 a.1 in
      let apart = f.apart in
      (a.0, omega arith),
  λ (low, high).
      let of_e = are.of_queue e low (omega arith) in
      let x = place_is job (packet job p).queue start stop p are refl from to in
      let y = place_is job (packet job p).queue start stop e are of_e.1 low (omega arith) in
      record { rings = rings; earlier = record { ahead = omega arith; is_packet = there; same_queue = of_e.1 }; apart = omega arith },
)

pub size_positive : (job : Job) (p : ℕ) → Valid job → IsPacket job p → 0 < size_of job p
size_positive job p valid there = let a = valid.queues p there in let e = valid.sizes in valid.slots (packet job p).queue 0 (omega arith)
