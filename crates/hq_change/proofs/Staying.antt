-- What is settled stays so, and where all is, the setting is minimal.
use Rattle.std.proofs.Common.{◌≡◌, ℕ, ◌⊎◌, inl, inr, IsTrue, List, length, refl, sym, subst, arith, Some, slice_get, slice_index_or}
use Rattle.std.proofs.lemmas.Bool.{true≢false}
use Rattle.std.proofs.lemmas.Option.{slice_get-get_or}
use Rattle.hq_packet.specs.declared.packet.Head.{Head}
use Rattle.hq_packet.specs.declared.packet.Scope.{Scope}
use Rattle.hq_packet.specs.declared.packet.Scope.TheVariants as scope
use Rattle.hq_model.specs.Job.{Job, IsPacket}
use Rattle.hq_packet.specs.Scopes.{reaches}
use Rattle.hq_model.specs.Fence.{Ordered}
use Rattle.hq_model.specs.Settings.{head_at, with_head, no_head, HeadRaises, Raises, Part, lowered}
use Rattle.hq_model.specs.Settings.Part.{Bit, AcquireScope, ReleaseScope}
use Rattle.hq_model.proofs.Finds.{find}
use Rattle.hq_model.proofs.SettingsKept.{same_length, packets_same}
use Rattle.hq_model.proofs.SettingsRaised.{raised_is_ordered}
use Rattle.hq_model.proofs.SettingsSteps.{Step, same_by_heads, raises_on, heads_are_set}
use Rattle.hq_change.specs.declared.level.Level.TheVariants as level
use Rattle.hq_change.specs.Minimal.{AtOrAbove, IsMinimal, Settled, SettledFrom}
use Rattle.hq_change.proofs.Single.{head_on, head_step, lowered_below, lowered_up, raised_up}

pub is_packet_above : (j k : Job) (p : ℕ) → Raises j k → IsPacket k p → IsPacket j p
is_packet_above j k p up is = omega (arith, is, same_length j.packets k.packets (packets_same j k up.same))

-- one packet's head lowered in a setting and in one above it
with_raises : (j k : Job) (p : ℕ) (g h : Head) → IsPacket k p → Raises j k → HeadRaises g (head_at j p) → HeadRaises g h → Raises (with_head j p g) (with_head k p h)
with_raises j k p g h is up low high =
    let set = heads_are_set j p g (is_packet_above j k p up is) in
    (heads_are_set k p h is).above (with_head j p g) (raises_on (with_head j p g) j k (set.lower low) up) (subst (λ x. HeadRaises x h) (sym set.here) high)

-- what is settled in a setting is so in each below it
pub settled_stays : (floor : List Head) (j k : Job) (p : ℕ) (part : Part) → IsPacket k p → Raises j k → Settled floor k p part → Settled floor j p part
settled_stays floor j k p part is up settled can o =
    let g = head_at j p in
    let h = head_at k p in
    let more = lowered_up part g h (up.heads p) in
    settled
    (record { low = can.low; is_floor = can.is_floor; raised = raised_up part g h (up.heads p) can.raised; above = head_on can.low (lowered part g) (lowered part h) can.above more })
    (raised_is_ordered (with_head j p (lowered part g)) (with_head k p (lowered part h)) (with_raises j k p (lowered part g) (lowered part h) is up (lowered_below part g) more) o)

-- where all parts of all packets are settled
module _ (floor : List Head) (k : Job) (floored : length floor ≡ length k.packets) (settled : (p : ℕ) (part : Part) → IsPacket k p → Settled floor k p part) where
  below_refused : (m : Job) → AtOrAbove floor m → Raises m k → Ordered m → (p : ℕ) → IsPacket k p → Step (head_at m p) (head_at k p) → ⊥
  below_refused m high up o p is step =
      let head = lowered step.part (head_at k p) in
      let low = slice_index_or floor p no_head in
      let there : slice_get floor p ≡ Some low = slice_get-get_or floor p no_head (omega (arith, is, floored)) in
      settled p step.part is
      (record { low = low; is_floor = there; raised = step.raised; above = head_on low (head_at m p) head (high p low there) step.above })
      (raised_is_ordered m (with_head k p head) ((heads_are_set k p head is).above m up step.above) o)

  pub minimal_of : AtOrAbove floor k → Ordered k → IsMinimal floor k
  minimal_of above ordered = record { above = above; ordered = ordered; least = least }
    where
      least : (m : Job) → AtOrAbove floor m → Raises m k → Ordered m → m ≡ k
      least m high up o = elim (find (length k.packets) (λ p. Step (head_at m p) (head_at k p)) (λ p. head_at m p ≡ head_at k p) (λ p l. head_step (head_at m p) (head_at k p) (up.heads p))) [
        | inl (p, is, step) ↦ absurd (below_refused m high up o p is step)
        | inr all ↦ same_by_heads m k up.same (λ p l. all p (omega (arith, l, same_length m.packets k.packets (packets_same m k up.same))))
      ]

-- ---- all levels

scope_is : (s : Scope) → (s ≡ scope.None) ⊎ ((s ≡ scope.Agent) ⊎ (s ≡ scope.System))
scope_is scope.None = inl refl
scope_is scope.Agent = inr (inl refl)
scope_is scope.System = inr (inr refl)

system_above : (s t : Scope) → IsTrue (reaches t s) → s ≡ scope.System → t ≡ scope.System
system_above s scope.System f e = refl
system_above s scope.Agent f e = absurd (true≢false (sym (subst (λ x. IsTrue (reaches scope.Agent x)) e f)))
system_above s scope.None f e = absurd (true≢false (sym (subst (λ x. IsTrue (reaches scope.None x)) e f)))

agent_above : (s t : Scope) → IsTrue (reaches t s) → s ≡ scope.Agent → (t ≡ scope.Agent) ⊎ (t ≡ scope.System)
agent_above s scope.System f e = inr refl
agent_above s scope.Agent f e = inl refl
agent_above s scope.None f e = absurd (true≢false (sym (subst (λ x. IsTrue (reaches scope.None x)) e f)))

-- settled at the higher level, then at the lower, then a setting below
module _ (floor : List Head) (first second last : Job) (up : Raises second first) (more : Raises last second) where
  to_first : Raises last first
  to_first = raises_on last second first more up

  pub release_settled : SettledFrom level.ReleaseSystem floor first 0 → SettledFrom level.ReleaseAgent floor second 0 → (p : ℕ) → IsPacket first p → Settled floor last p ReleaseScope
  release_settled high low p is = elim (scope_is (head_at last p).release) [
    | inl none ↦ λ can o. can.raised none
    | inr (inr system) ↦ by_first (system_above (head_at last p).release (head_at first p).release (to_first.heads p).release system)
    | inr (inl agent) ↦ elim (agent_above (head_at last p).release (head_at second p).release (more.heads p).release agent) [
      | inl e ↦ let in_second = is_packet_above second first p up is in settled_stays floor last second p ReleaseScope in_second more (low p (omega arith) in_second e)
      | inr e ↦ by_first (system_above (head_at second p).release (head_at first p).release (up.heads p).release e)
    ]
  ]
    where
      by_first : (head_at first p).release ≡ scope.System → Settled floor last p ReleaseScope
      by_first e = settled_stays floor last first p ReleaseScope is to_first (high p (omega arith) is e)

  pub acquire_settled : SettledFrom level.AcquireSystem floor first 0 → SettledFrom level.AcquireAgent floor second 0 → (p : ℕ) → IsPacket first p → Settled floor last p AcquireScope
  acquire_settled high low p is = elim (scope_is (head_at last p).acquire) [
    | inl none ↦ λ can o. can.raised none
    | inr (inr system) ↦ by_first (system_above (head_at last p).acquire (head_at first p).acquire (to_first.heads p).acquire system)
    | inr (inl agent) ↦ elim (agent_above (head_at last p).acquire (head_at second p).acquire (more.heads p).acquire agent) [
      | inl e ↦ let in_second = is_packet_above second first p up is in settled_stays floor last second p AcquireScope in_second more (low p (omega arith) in_second e)
      | inr e ↦ by_first (system_above (head_at second p).acquire (head_at first p).acquire (up.heads p).acquire e)
    ]
  ]
    where
      by_first : (head_at first p).acquire ≡ scope.System → Settled floor last p AcquireScope
      by_first e = settled_stays floor last first p AcquireScope is to_first (high p (omega arith) is e)

pub bits_settled : (floor : List Head) (k : Job) → SettledFrom level.Bit floor k 0 → (p : ℕ) → IsPacket k p → Settled floor k p Bit
bits_settled floor k h p is can o = h p (omega arith) is can.raised can o

-- of the three parts
pub each_part : (floor : List Head) (k : Job) → ((p : ℕ) → IsPacket k p → Settled floor k p ReleaseScope) → ((p : ℕ) → IsPacket k p → Settled floor k p AcquireScope) → ((p : ℕ) → IsPacket k p → Settled floor k p Bit)
    → (p : ℕ) (part : Part) → IsPacket k p → Settled floor k p part
each_part floor k release acquire bit p ReleaseScope is = release p is
each_part floor k release acquire bit p AcquireScope is = acquire p is
each_part floor k release acquire bit p Bit is = bit p is
