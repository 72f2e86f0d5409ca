-- Each packet that can never complete waits for another that can't.
use Rattle.std.proofs.Common.{◌≡◌, ℕ, suc, ◌-◌, ◌<◌, ◌≤◌, ◌⊎◌, inl, inr, List, ◌∷◌, length, refl, sym, ◌∙◌, ap, subst, arith, slice_index_or}
use Rattle.std.proofs.lemmas.Bool.{cases_eq}
use Rattle.std.proofs.lemmas.List.Elements.{All-cons}
use Rattle.hq_model.specs.Job.{Job, packet, IsPacket, Earlier, Dependency, Decrements, IsBarrier, Frees}
use Rattle.hq_model.specs.Order.{Blocked, StuckSet, Stuck, In, Ahead, FreesFor, place}
use Rattle.hq_model.specs.Order.Blocked.{by_earlier, by_slot, by_dependency, by_each}
use Rattle.hq_model.specs.Theorems.{Valid}
use Rattle.hq_model.proofs.Places.{in_cons, in_first, in_rest, at_place, place_once, place_of_packets}
use Rattle.hq_model.proofs.Orders.{earlier_packet}
use Rattle.hq_job.specs.Access.{AreOfQueue}
use Rattle.hq_graph.specs.Order.{Awaits}
use Rattle.hq_graph.specs.declared.wait.Wait.{Wait}
use Rattle.hq_graph.specs.declared.wait.Wait.TheVariants as wait

-- a packet that r waits for
pub record Waiting (job : Job) (r : ℕ) : Type 0 where
  pub p : ℕ
  pub by : Wait
  pub there : IsPacket job p
  pub awaits : Awaits job p r by

-- what a set blocks is blocked by one that has more
blocked_more : (job : Job) (set : List ℕ) (q r : ℕ) → Blocked job set r → Blocked job (q ∷ set) r
blocked_more job set q r (by_earlier p earlier i) = by_earlier p earlier (in_cons q set p i)
blocked_more job set q r (by_slot p frees i) = by_slot p frees (in_cons q set p i)
blocked_more job set q r (by_dependency slot s d kind dep dec i) = by_dependency slot s d kind dep dec (in_cons q set d i)
blocked_more job set q r (by_each kind each) = by_each kind (λ slot s dep. let f = each slot s dep in (f.0, f.1, in_cons q set f.0 f.2))

module _ (job : Job) (set : List ℕ) (stuck : StuckSet job set) where
  -- a packet that a stuck set blocks can never complete either
  stuck_too : (q : ℕ) → IsPacket job q → Blocked job set q → Stuck job q
  stuck_too q there blocked = (
    q ∷ set,
    record {
      some = omega arith;
      packets = All-cons (λ p. IsPacket job p) q set there stuck.packets;
      blocked = λ r i. elim (cases_eq q r) [
        | inl e ↦ subst (Blocked job (q ∷ set)) e (blocked_more job set q q blocked)
        | inr d ↦ blocked_more job set q r (stuck.blocked r (in_rest q set r d i))
      ];
    },
    in_first q set q refl,
  )

  is_packet : (p : ℕ) → In set p → IsPacket job p
  is_packet p i = place_of_packets (λ q. IsPacket job q) set p stuck.packets i

  -- it stands behind one of them: then the packet right ahead of it is such a one
  by_queue : (queue start stop p r : ℕ) → AreOfQueue job queue start stop → (packet job r).queue ≡ queue → Earlier job p r → In set p → Stuck job r → Waiting job r
  by_queue queue start stop p r span same earlier i r_is =
      let q : ℕ = r - 1 in
      let next : suc q ≡ r = omega (arith, earlier.ahead) in
      let low : start ≤ p = (span.within p (earlier_packet job p r earlier) (earlier.same_queue ∙ same)).0 in
      let high : r < stop = (span.within r earlier.is_packet same).1 in
      let here = span.of_queue q (omega (arith, low, earlier.ahead, next)) (omega (arith, high, next)) in
      let alike : (packet job q).queue ≡ (packet job r).queue = here.1 ∙ sym same in
      let q_is : Stuck job q = elim (cases_eq p q) [
        | inl e ↦ subst (Stuck job) e (set, stuck, i)
        | inr d ↦ stuck_too q here.0 (by_earlier p (record { ahead = omega (arith, d, earlier.ahead, next); is_packet = here.0; same_queue = earlier.same_queue ∙ sym alike }) i)
      ] in
      record { p = q; by = wait.Ahead; there = here.0; awaits = record { first = q_is; second = r_is; waits = (record { ahead = omega (arith, next); is_packet = earlier.is_packet; same_queue = alike }, next) } }

  -- one of them has its slot, or that of a packet submitted ahead of it: then the one right ahead of it is never submitted
  by_ring : (p r : ℕ) → Valid job → FreesFor job p r → In set p → Stuck job r → Waiting job r
  by_ring p r valid frees i r_is = elim frees.upto [
    | inl e ↦ record { p = p; by = wait.Slot; there = is_packet p i; awaits = record { first = (set, stuck, i); second = r_is; waits = subst (Frees job p) e frees.frees } }
    | inr ahead ↦
        let list : List ℕ = job.submissions in
        let m : ℕ = frees.m in
        let k : ℕ = place list r - 1 in
        let next : suc k ≡ place list r = omega (arith, ahead) in
        let r_in : In list r = valid.submissions.all r frees.is_packet in
        let inside : k < length list = omega (arith, next, r_in) in
        let q : ℕ = slice_index_or list k r in
        let placed : place list q ≡ k = place_once list k r valid.submissions.once inside in
        let there : IsPacket job q = valid.submissions.packets k r inside in
        let m_in : In list m = omega (arith, ahead, r_in) in
        let upto : (m ≡ q) ⊎ Ahead list m q = elim (cases_eq (place list m) k) [
          | inl e ↦ inl (sym (at_place list m r m_in) ∙ ap (λ j. slice_index_or list j r) e)
          | inr d ↦ inr (omega (arith, ahead, next, placed, d))
        ] in
        let freed : FreesFor job p q = record { is_packet = there; m = m; upto = upto; frees = frees.frees } in
        record {
          p = q;
          by = wait.Turn;
          there = there;
          awaits = record { first = stuck_too q there (by_slot p freed i); second = r_is; waits = (ap suc placed ∙ next, (p, (set, stuck, i), freed)) };
        }
  ]

  -- one of them completes on a signal that it waits for
  by_signal : (slot s d r : ℕ) → IsBarrier job r → Dependency job r slot s → Decrements job d s → In set d → Stuck job r → Waiting job r
  by_signal slot s d r barrier dep dec i r_is = record { p = d; by = wait.Signal s; there = is_packet d i; awaits = record { first = (set, stuck, i); second = r_is; waits = (barrier, (slot, dep), dec) } }

  of_blocked : (queue start stop r : ℕ) → Valid job → AreOfQueue job queue start stop → (packet job r).queue ≡ queue → IsPacket job r → Stuck job r → Blocked job set r → Waiting job r
  of_blocked queue start stop r valid span same there r_is (by_earlier p earlier i) = by_queue queue start stop p r span same earlier i r_is
  of_blocked queue start stop r valid span same there r_is (by_slot p frees i) = by_ring p r valid frees i r_is
  of_blocked queue start stop r valid span same there r_is (by_dependency slot s d kind dep dec i) = by_signal slot s d r (λ work. cc) dep dec i r_is
  of_blocked queue start stop r valid span same there r_is (by_each kind each) =
      let some = valid.not_null r there kind in
      let found = each some.0 some.1 some.2 in
      by_signal some.0 some.1 found.0 r (λ work. cc) some.2 found.1 found.2 r_is

pub waits_for_one : (job : Job) (queue start stop r : ℕ) → Valid job → AreOfQueue job queue start stop → (packet job r).queue ≡ queue → IsPacket job r → Stuck job r → Waiting job r
waits_for_one job queue start stop r valid span same there stuck =
    of_blocked job stuck.0 stuck.1 queue start stop r valid span same there stuck (stuck.1.blocked r stuck.2)
