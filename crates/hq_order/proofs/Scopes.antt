-- What the scopes of fences leave.
use Rattle.std.proofs.Common.{◌≡◌, ℕ, zero, suc, ◌⊎◌, inl, inr, IsTrue, List, sym, subst}
use Rattle.hq_model.specs.Job.{Job, Packet, packet, Dependency}
use Rattle.hq_model.proofs.SettingsKept.{SamePackets, with_packets, packets_same, other_is, same_length, dependency_kept, decrements_kept, bit_kept, queue_rule_kept, and_kept, any_kept}
use Rattle.hq_order.specs.declared.before.Rounds.{Rounds}
use Rattle.hq_order.specs.Rounds.{Precedes, Awaits, Direct, Reaches, Next, Within}
use Rattle.hq_order.specs.Rounds.Precedes.{by_bit, by_queue}
use Rattle.hq_order.specs.Rounds.Awaits.{by_and, by_or}
use Rattle.hq_order.specs.Rounds.Next.{by_known, by_either, through}
use Rattle.hq_rows.specs.Matrix.{IsSquare, Marks, matrix, last}
use Rattle.hq_order.specs.View.{AreOf, ScopesLeaveRounds}

-- each packet has the bit in both or in neither
abbrev pub SameBits : Job → Job → Type 0
SameBits j k = (p : ℕ) → (packet j p).bit ≡ (packet k p).bit

-- ---- from a job to the same with other scopes

module _ (job : Job) (ps : List Packet) (same : SamePackets job.packets ps) (bits : SameBits job (with_packets job ps)) where
  precedes : (p r : ℕ) → Precedes job p r → Precedes (with_packets job ps) p r
  precedes p r (by_bit {j = j} by) = by_bit {j = j} (bit_kept job ps same p r j (λ b. subst IsTrue (bits j) b) by)
  precedes p r (by_queue by) = by_queue (queue_rule_kept job ps same p r by)

  dependency_back : (r slot s : ℕ) → Dependency (with_packets job ps) r slot s → Dependency job r slot s
  dependency_back r slot s w = dependency_kept (with_packets job ps) job.packets (sym same) r slot s w

  awaits : (p r : ℕ) → Awaits job p r → Awaits (with_packets job ps) p r
  awaits p r (by_and {slot = slot} {s = s} by) = by_and {slot = slot} {s = s} (and_kept job ps same p r slot s by)
  awaits p r (by_or any h) = by_or (any_kept job ps same r any)
      (λ slot s w. decrements_kept job ps same p s (h slot s (dependency_back r slot s w)))

  direct : (p r : ℕ) → Direct job p r → Direct (with_packets job ps) p r
  direct p r (inl h) = inl (precedes p r h)
  direct p r (inr h) = inr (awaits p r h)

  next : (known more : ℕ → ℕ → Type 0) → ((p r : ℕ) → known p r → more p r) → (p r : ℕ) → Next job known p r → Next (with_packets job ps) more p r
  next known more up p r (by_known h) = by_known (up p r h)
  next known more up p r (through {m = m} g h) = through (up p m g) (up m r h)
  next known more up p r (by_either h) = by_either (record {
    any = any_kept job ps same r h.any;
    each = λ slot s w. reaches s (h.each slot s (dependency_back r slot s w));
  })
    where
      upto : (d : ℕ) → (p ≡ d) ⊎ known p d → (p ≡ d) ⊎ more p d
      upto d (inl e) = inl e
      upto d (inr k) = inr (up p d k)

      reaches : (s : ℕ) → Reaches job known p s → Reaches (with_packets job ps) more p s
      reaches s f = record { d = f.d; decrements = decrements_kept job ps same f.d s f.decrements; upto = upto f.d f.upto }

  within : (k p r : ℕ) → Within job k p r → Within (with_packets job ps) k p r
  within zero p r h = direct p r h
  within (suc k) p r h = next (Within job k) (Within (with_packets job ps) k) (within k) p r h

-- ---- and back

bits_back : (j k : Job) → SameBits j k → SameBits k j
bits_back j k bits p = sym (bits p)

are_of : (job : Job) (ps : List Packet) (r : Rounds) → SamePackets job.packets ps → SameBits job (with_packets job ps) → AreOf job r → AreOf (with_packets job ps) r
are_of job ps r same bits h = record {
  rounds = record {
    some = h.rounds.some;
    square = λ k low. subst (λ n. IsSquare n (matrix r.rounds.items k)) (same_length job.packets ps same) (h.rounds.square k low);
    exact = λ k p q low. let e = h.rounds.exact k p q low in
        (λ m. within job ps same bits k p q (e.0 m), λ w. e.1 (within new job.packets (sym same) (bits_back job new bits) k p q w));
  };
  closed = λ p q n. h.closed p q (next new job.packets (sym same) (bits_back job new bits) (Marks (last r.rounds.items)) (Marks (last r.rounds.items)) (λ a b m. m) p q n);
  turned = h.turned;
}
  where
    new : Job
    new = with_packets job ps

pub scopes_leave_rounds : ScopesLeaveRounds
scopes_leave_rounds j k r s h =
    let same = packets_same j k s.heads in
    let is = other_is j k s.heads in
    subst (λ m. AreOf m r) is (are_of j k.packets r same (λ p. subst (λ m. (packet j p).bit ≡ (packet m p).bit) (sym is) (s.bits p)) h)
