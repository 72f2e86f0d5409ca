-- What the rules give that rest on no other pair.
use Rattle.std.proofs.Common.{◌≡◌, ◌↔◌, ℕ, ◌+◌, ◌-◌, ◌<◌, ◌≤◌, ◌⊎◌, inl, inr, length, sym, ◌∙◌, ap, subst, arith, IsTrue, Some, slice_get}
use Rattle.std.proofs.lemmas.Bool.{cases_eq}
use Rattle.std.proofs.lemmas.List.{length-map}
use Rattle.hq_tables.specs.declared.rows.Placed.{Placed}
use Rattle.hq_job.specs.Value.{JobValue}
use Rattle.hq_job.specs.Plan.{plan, planned}
use Rattle.hq_tables.specs.Kinds.{kind_of}
use Rattle.hq_model.specs.Job.{Job, packet, IsPacket, Earlier, Dependency, Decrements, IsBarrier}
use Rattle.hq_model.specs.Job.Kind.{BarrierAnd, BarrierOr}
use Rattle.hq_job.specs.Access.{AreOfQueue}
use Rattle.hq_waits.specs.Waits.{OfDependencies}
use Rattle.hq_job.proofs.Rings.{earlier_range}
use Rattle.hq_order.specs.Rounds.{Precedes, Awaits, Direct}
use Rattle.hq_model.specs.Order.{AwaitsAny, Whichever}
use Rattle.hq_model.proofs.Orders.{bit_packet, earlier_packet}
use Rattle.hq_order.specs.Rounds.Precedes.{by_bit, by_queue}
use Rattle.hq_order.specs.Rounds.Awaits.{by_and, by_or}

-- a packet of the job is one of the plan
pub count : (job : JobValue) → length (plan job).packets ≡ length job.packets
count job = length-map job.packets planned

-- ---- by the place in the queue

further : (job : Job) (p q r : ℕ) → Earlier job p q → Earlier job q r → Earlier job p r
further job p q r e f = record { ahead = omega (arith, e.ahead, f.ahead); is_packet = f.is_packet; same_queue = e.same_queue ∙ f.same_queue }

-- what stays ahead of a packet of the queue stays ahead of the later ones
pub precedes_further : (job : Job) (p q r : ℕ) → Earlier job q r → Precedes job p q → Precedes job p r
precedes_further job p q r f (by_bit {j} by) = by_bit {j = j} (record {
  earlier = by.earlier;
  bit = by.bit;
  upto = inr (elim by.upto [
    | inl is ↦ subst (λ k. Earlier job k r) (sym is) f
    | inr g ↦ further job j q r g f
  ]);
})
precedes_further job p q r f (by_queue by) = by_queue (record { earlier = further job p q r by.earlier f; barrier = by.barrier })

-- the packet ahead of r in its queue
abbrev pub StandsNext : Job → ℕ → ℕ → Type 0
StandsNext job q r = Earlier job q r × (r ≡ q + 1)

closer : (job : Job) (p q r : ℕ) → StandsNext job q r → Earlier job p r → (p ≡ q) ⊎ Earlier job p q
closer job p q r n e = elim (cases_eq p q) [
  | inl same ↦ inl same
  | inr other ↦
      let r_is : r < length job.packets = e.is_packet in
      inr (record { ahead = omega (arith, e.ahead, n.1, other); is_packet = omega (arith, n.1, r_is); same_queue = e.same_queue ∙ sym n.0.same_queue })
]

-- where r has no barrier bit, it stays behind what the packet ahead of it does, and behind that one if it is a barrier packet
pub precedes_next : (job : Job) (p q r : ℕ) → StandsNext job q r → (IsTrue (packet job r).bit → ⊥) → Precedes job p r ↔ (Precedes job p q ⊎ ((p ≡ q) × IsBarrier job q))
precedes_next job p q r n no_bit = (
  λ x. there x,
  λ t. elim t [
    | inl x ↦ precedes_further job p q r n.0 x
    | inr y ↦ by_queue (record { earlier = subst (λ k. Earlier job k r) (sym y.0) n.0; barrier = subst (IsBarrier job) (sym y.0) y.1 })
  ],
)
  where
    there : Precedes job p r → Precedes job p q ⊎ ((p ≡ q) × IsBarrier job q)
    there (by_bit {j} by) = elim by.upto [
      | inl is ↦ absurd (no_bit (subst (λ k. IsTrue (packet job k).bit) is by.bit))
      | inr f ↦ inl (by_bit {j = j} (record { earlier = by.earlier; bit = by.bit; upto = closer job j q r n f }))
    ]
    there (by_queue by) = elim (closer job p q r n by.earlier) [
      | inl same ↦ inr (same, subst (IsBarrier job) same by.barrier)
      | inr g ↦ inl (by_queue (record { earlier = g; barrier = by.barrier }))
    ]

-- ---- by signals

-- a packet and what the plan has of it
pub record Shows (job : Job) (p : ℕ) (placed : Placed) : Type 0 where
  pub is_packet : IsPacket job p
  pub same : planned placed ≡ packet job p

pub dependency : (job : Job) (r slot s : ℕ) (waiting : Placed) → Shows job r waiting → slice_get waiting.slots slot ≡ Some (Some s) → Dependency job r slot s
dependency job r slot s waiting w there = record { is_packet = w.is_packet; signal = subst (λ deps. slice_get deps slot ≡ Some (Some s)) (ap (λ x. x.deps) w.same) there }

pub slot_of : (job : Job) (r slot s : ℕ) (waiting : Placed) → Shows job r waiting → Dependency job r slot s → slice_get waiting.slots slot ≡ Some (Some s)
slot_of job r slot s waiting w d = subst (λ deps. slice_get deps slot ≡ Some (Some s)) (sym (ap (λ x. x.deps) w.same)) d.signal

pub kind_is : (job : Job) (r : ℕ) (waiting : Placed) → Shows job r waiting → (packet job r).kind ≡ kind_of waiting.packet
kind_is job r waiting w = sym (ap (λ x. x.kind) w.same)

-- a barrier-AND waits for all that complete on its dependencies
pub awaits_and : (job : Job) (p r : ℕ) → (packet job r).kind ≡ BarrierAnd → OfDependencies job r p ↔ Awaits job p r
awaits_and job p r k = (
  λ d. by_and {slot = d.0} {s = d.1} (record { kind = k; dependency = d.2; decrements = d.3 }),
  λ a. back a,
)
  where
    back : Awaits job p r → OfDependencies job r p
    back (by_and {slot} {s} by) = (slot, s, by.dependency, by.decrements)
    back (by_or any c) = absurd (let x : BarrierAnd ≡ BarrierOr = sym k ∙ any.kind in cc)

-- a barrier-OR for all that complete on each of them
pub awaits_or : (job : Job) (p r : ℕ) → AwaitsAny job r → Whichever job r (Decrements job p) ↔ Awaits job p r
awaits_or job p r any = (
  λ all. by_or any all,
  λ a. back a,
)
  where
    back : Awaits job p r → Whichever job r (Decrements job p)
    back (by_and by) = absurd (let x : BarrierOr ≡ BarrierAnd = sym any.kind ∙ by.kind in cc)
    back (by_or any all) = all

pub direct_packet : (job : Job) (p r : ℕ) → IsPacket job r → Direct job p r → IsPacket job p
direct_packet job p r l (inl (by_bit {j} by)) = earlier_packet job p j by.earlier
direct_packet job p r l (inl (by_queue by)) = earlier_packet job p r by.earlier
direct_packet job p r l (inr (by_and by)) = by.decrements.is_packet
direct_packet job p r l (inr (by_or any c)) = let (slot, s, d) = any.some in (c slot s d).is_packet

pub few : (job : JobValue) (r : ℕ) → IsPacket (plan job) r → r < length job.packets
few job r l = omega (arith, count job)

pub direct_packet_r : (job : Job) (p r : ℕ) → Direct job p r → IsPacket job r
direct_packet_r job p r (inl (by_bit by)) = bit_packet job p r by
direct_packet_r job p r (inl (by_queue by)) = by.earlier.is_packet
direct_packet_r job p r (inr (by_and by)) = by.dependency.is_packet
direct_packet_r job p r (inr (by_or any c)) = any.some.2.is_packet

-- ---- the packets of a queue

-- what stays ahead of r stands ahead of it in its queue, so that nothing does where r is the first
pub precedes_earlier : (job : Job) (p r : ℕ) → Precedes job p r → Earlier job p r
precedes_earlier job p r (by_bit {j} by) = elim by.upto [ inl is ↦ subst (Earlier job p) is by.earlier | inr f ↦ further job p j r by.earlier f ]
precedes_earlier job p r (by_queue by) = by.earlier

pub none_precedes : (job : Job) (queue start stop p r : ℕ) → AreOfQueue job queue start stop → (packet job r).queue ≡ queue → IsPacket job r → r ≤ start → Precedes job p r → ⊥
none_precedes job queue start stop p r q e l first x =
    let within = (earlier_range job queue start stop p r q e l).0 (precedes_earlier job p r x) in
    omega (arith, within.0, within.1, first)

-- the one ahead of r, which isn't the first
pub next_of_queue : (job : Job) (queue start stop r : ℕ) → AreOfQueue job queue start stop → (packet job r).queue ≡ queue → IsPacket job r → start < r → StandsNext job (r - 1) r
next_of_queue job queue start stop r q e l above =
    let inside : r < stop = (q.within r l e).1 in (
      record { ahead = omega arith; is_packet = l; same_queue = (q.of_queue (r - 1) (omega arith) (omega arith)).1 ∙ sym e },
      omega arith,
    )
