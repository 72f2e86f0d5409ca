-- How settings lie, and that single steps down suffice.
use Rattle.std.proofs.Common.{◌≡◌, ◌≢◌, ℕ, ◌⊎◌, inl, inr, Bool, true, false, IsTrue, refl, sym, ◌∙◌, ap, subst, arith, List, [], ◌∷◌, length, map}
use Rattle.std.proofs.Math.ListN.{get_or-map}
use Rattle.std.proofs.Math.Seq.{map-set_same}
use Rattle.std.proofs.lemmas.Bool.{cases_eq, cases_lt, true≢false}
use Rattle.std.proofs.lemmas.List.{ext_get_or, get_or_past, get_or-set_same, get_or-set_other}
use Rattle.std.proofs.lemmas.List as lists
use Rattle.hq_packet.specs.declared.packet.Head.{Head}
use Rattle.hq_packet.specs.declared.packet.Scope.{Scope}
use Rattle.hq_packet.specs.declared.packet.Scope.TheVariants as scope
use Rattle.hq_model.specs.Job.{Job, Packet, packet, IsPacket, no_packet}
use Rattle.hq_packet.specs.Scopes.{reaches}
use Rattle.hq_model.specs.Settings.{head_of, packet_with_head, head_at, with_head, no_head, full_head, lowest, highest, SameButHeads, HeadRaises, Raises, Part, scope_below, lowered, IsRaised, SomeRaisedIsOrdered, HighestIsHighest, LowestIsLowest, RaisingIsPartialOrder, HeadIsSet, HeadsAreSet, LoweredIsLower, StepsSuffice}
use Rattle.hq_model.specs.Settings.Part.{Bit, AcquireScope, ReleaseScope}
use Rattle.hq_model.proofs.Finds.{find}
use Rattle.hq_model.proofs.SettingsKept.{bare, SamePackets, with_packets, same_at, same_length, packets_same, other_is}
use Rattle.hq_model.proofs.SettingsRaised.{reaches_on, raised_is_ordered}

-- ---- scopes and heads

reaches_itself : (s : Scope) → IsTrue (reaches s s)
reaches_itself scope.None = refl
reaches_itself scope.Agent = refl
reaches_itself scope.System = refl

system_reaches_each : (s : Scope) → IsTrue (reaches scope.System s)
system_reaches_each scope.None = refl
system_reaches_each scope.Agent = refl
system_reaches_each scope.System = refl

same_reach : (s t : Scope) → IsTrue (reaches t s) → IsTrue (reaches s t) → s ≡ t
same_reach scope.None scope.None f g = refl
same_reach scope.None scope.Agent f g = absurd (true≢false (sym g))
same_reach scope.None scope.System f g = absurd (true≢false (sym g))
same_reach scope.Agent scope.None f g = absurd (true≢false (sym f))
same_reach scope.Agent scope.Agent f g = refl
same_reach scope.Agent scope.System f g = absurd (true≢false (sym g))
same_reach scope.System scope.None f g = absurd (true≢false (sym f))
same_reach scope.System scope.Agent f g = absurd (true≢false (sym f))
same_reach scope.System scope.System f g = refl

same_bit : (b c : Bool) → (IsTrue b → IsTrue c) → (IsTrue c → IsTrue b) → b ≡ c
same_bit true c f g = sym (f refl)
same_bit false true f g = g refl
same_bit false false f g = refl

head_same : (g h : Head) → g.barrier ≡ h.barrier → g.acquire ≡ h.acquire → g.release ≡ h.release → g ≡ h
head_same g h b a r = λ i. record { barrier = b i; acquire = a i; release = r i }

head_itself : (g : Head) → HeadRaises g g
head_itself g = record { bit = λ b. b; acquire = reaches_itself g.acquire; release = reaches_itself g.release }

head_on : (g h m : Head) → HeadRaises g h → HeadRaises h m → HeadRaises g m
head_on g h m up more = record {
  bit = λ b. more.bit (up.bit b);
  acquire = reaches_on m.acquire h.acquire g.acquire more.acquire up.acquire;
  release = reaches_on m.release h.release g.release more.release up.release;
}

head_both : (g h : Head) → HeadRaises g h → HeadRaises h g → g ≡ h
head_both g h up down = head_same g h (same_bit g.barrier h.barrier up.bit down.bit) (same_reach g.acquire h.acquire up.acquire down.acquire) (same_reach g.release h.release up.release down.release)

full_is_highest : (g : Head) → HeadRaises g full_head
full_is_highest g = record { bit = λ b. refl; acquire = system_reaches_each g.acquire; release = system_reaches_each g.release }

none_is_lowest : (g : Head) → HeadRaises no_head g
none_is_lowest g = record { bit = λ b. absurd (true≢false (sym b)); acquire = refl; release = refl }

-- ---- jobs by their heads

same_but : (j : Job) (ps : List Packet) → SamePackets j.packets ps → SameButHeads j (with_packets j ps)
same_but j ps same = ap (with_packets j) same

each_same : (head : Head) (xs : List Packet) → SamePackets xs (map (λ e. packet_with_head e head) xs)
each_same head [] = refl
each_same head (x ∷ xs) = ap (λ ys. bare x ∷ ys) (each_same head xs)

packet_same : (e f : Packet) → bare e ≡ bare f → head_of e ≡ head_of f → e ≡ f
packet_same e f same heads = λ i. packet_with_head (same i) (heads i)

-- jobs that differ in nothing but heads, and not in these, are one
pub same_by_heads : (j k : Job) → SameButHeads j k → ((p : ℕ) → IsPacket j p → head_at j p ≡ head_at k p) → j ≡ k
same_by_heads j k same heads = ap (with_packets j) packets ∙ other_is j k same
  where
    packets : j.packets ≡ k.packets
    packets = ext_get_or no_packet j.packets k.packets (same_length j.packets k.packets (packets_same j k same))
        (λ p l. packet_same (packet j p) (packet k p) (same_at j.packets k.packets (packets_same j k same) p) (heads p l))

raises_itself : (j : Job) → Raises j j
raises_itself j = record { same = refl; heads = λ p. head_itself (head_at j p) }

pub raises_on : (j k m : Job) → Raises j k → Raises k m → Raises j m
raises_on j k m up more = record { same = up.same ∙ more.same; heads = λ p. head_on (head_at j p) (head_at k p) (head_at m p) (up.heads p) (more.heads p) }

pub raising_is_partial_order : RaisingIsPartialOrder
raising_is_partial_order = record {
  reflexive = raises_itself;
  transitive = raises_on;
  antisymmetric = λ j k up down. same_by_heads j k up.same (λ p l. head_both (head_at j p) (head_at k p) (up.heads p) (down.heads p));
}

pub highest_is_highest : HighestIsHighest
highest_is_highest j k same = record { same = sym same ∙ same_but j (highest j).packets (each_same full_head j.packets); heads = heads }
  where
    there : SameButHeads k j
    there = sym same

    heads : (p : ℕ) → HeadRaises (head_at k p) (head_at (highest j) p)
    heads p = elim (cases_lt p (length j.packets)) [
      | inl l ↦ subst (λ (e : Packet). HeadRaises (head_at k p) (head_of e)) (sym (lists.get_or-map (λ e. packet_with_head e full_head) j.packets p no_packet no_packet l)) (full_is_highest (head_at k p))
      | inr l ↦
          let out : packet k p ≡ no_packet = get_or_past k.packets p no_packet (omega (arith, l, same_length k.packets j.packets (packets_same k j there))) in
          subst (λ (e : Packet). HeadRaises (head_of e) (head_at (highest j) p)) (sym out) (none_is_lowest (head_at (highest j) p))
    ]

pub lowest_is_lowest : LowestIsLowest
lowest_is_lowest j k same = record {
  same = sym (same_but j (lowest j).packets (each_same no_head j.packets)) ∙ same;
  heads = λ p. subst (λ (e : Packet). HeadRaises (head_of e) (head_at k p)) (sym (get_or-map bare j.packets p no_packet)) (none_is_lowest (head_at k p));
}

pub some_raised_is_ordered : SomeRaisedIsOrdered
some_raised_is_ordered j = (
  λ (k, up, o). raised_is_ordered k (highest j) (highest_is_highest j k up.same) o,
  λ o. (highest j, highest_is_highest j j refl, o),
)

-- ---- one packet's head

pub heads_are_set : HeadsAreSet
heads_are_set j p head is = record {
  same = same;
  here = here;
  others = others;
  lower = λ down. record { same = sym same; heads = to_each (λ r g. HeadRaises g (head_at j r)) down (λ r. head_itself (head_at j r)) };
  higher = λ up. record { same = same; heads = to_each (λ r g. HeadRaises (head_at j r) g) up (λ r. head_itself (head_at j r)) };
  above = λ i up high. record { same = up.same ∙ same; heads = to_each (λ r g. HeadRaises (head_at i r) g) high up.heads };
}
  where
    same : SameButHeads j (with_head j p head)
    same = sym (ap (with_packets j) (map-set_same bare j.packets p (packet_with_head (packet j p) head) no_packet refl))

    here : head_at (with_head j p head) p ≡ head
    here = ap head_of (get_or-set_same j.packets p (packet_with_head (packet j p) head) no_packet is)

    others : (r : ℕ) → r ≢ p → packet (with_head j p head) r ≡ packet j r
    others r apart = get_or-set_other j.packets p r (packet_with_head (packet j p) head) no_packet apart

    to_each : (P : ℕ → Head → Type 0) → P p head → ((r : ℕ) → P r (head_at j r)) → (r : ℕ) → P r (head_at (with_head j p head) r)
    to_each P at_p at_others r = elim (cases_eq r p) [
      | inl e ↦ subst (λ q. P q (head_at (with_head j p head) q)) (sym e) (subst (P p) (sym here) at_p)
      | inr apart ↦ subst (λ (e : Packet). P r (head_of e)) (sym (others r apart)) (at_others r)
    ]

-- ---- lowerings

below_reached : (s : Scope) → IsTrue (reaches s (scope_below s))
below_reached scope.None = refl
below_reached scope.Agent = refl
below_reached scope.System = refl

below_differs : (s : Scope) → s ≢ scope.None → scope_below s ≢ s
below_differs scope.None some e = some refl
below_differs scope.Agent some e = absurd (cc)
below_differs scope.System some e = absurd (cc)

lowered_below : (part : Part) (g : Head) → HeadRaises (lowered part g) g
lowered_below Bit g = record { bit = λ b. absurd (true≢false (sym b)); acquire = reaches_itself g.acquire; release = reaches_itself g.release }
lowered_below AcquireScope g = record { bit = λ b. b; acquire = below_reached g.acquire; release = reaches_itself g.release }
lowered_below ReleaseScope g = record { bit = λ b. b; acquire = reaches_itself g.acquire; release = below_reached g.release }

lowered_differs : (part : Part) (g : Head) → IsRaised part g → lowered part g ≢ g
lowered_differs Bit g raised e = true≢false (sym raised ∙ sym (ap (λ (h : Head). h.barrier) e))
lowered_differs AcquireScope g raised e = below_differs g.acquire raised (ap (λ (h : Head). h.acquire) e)
lowered_differs ReleaseScope g raised e = below_differs g.release raised (ap (λ (h : Head). h.release) e)

pub lowered_is_lower : LoweredIsLower
lowered_is_lower k m h = (
  subst (λ x. Raises x k) (sym h.job_is) (set.lower (lowered_below h.part (head_at k h.p))),
  λ e. lowered_differs h.part (head_at k h.p) h.raised (sym set.here ∙ ap (λ x. head_at x h.p) (sym h.job_is ∙ e)),
)
  where
    set : HeadIsSet k h.p (lowered h.part (head_at k h.p))
    set = heads_are_set k h.p (lowered h.part (head_at k h.p)) h.is_packet

-- ---- the way down from a head to one below it

-- a part of h that can be one level lower and stays at or above g
pub record Step (g h : Head) : Type 0 where
  pub part : Part
  pub raised : IsRaised part h
  pub above : HeadRaises g (lowered part h)

agent≢none : scope.Agent ≢ scope.None
agent≢none e = cc

system≢none : scope.System ≢ scope.None
system≢none e = cc

scope_step : (s t : Scope) → IsTrue (reaches t s) → (s ≡ t) ⊎ ((t ≢ scope.None) × IsTrue (reaches (scope_below t) s))
scope_step scope.None scope.None f = inl refl
scope_step scope.None scope.Agent f = inr (agent≢none, refl)
scope_step scope.None scope.System f = inr (system≢none, refl)
scope_step scope.Agent scope.None f = absurd (true≢false (sym f))
scope_step scope.Agent scope.Agent f = inl refl
scope_step scope.Agent scope.System f = inr (system≢none, refl)
scope_step scope.System scope.None f = absurd (true≢false (sym f))
scope_step scope.System scope.Agent f = absurd (true≢false (sym f))
scope_step scope.System scope.System f = inl refl

bit_step : (b c : Bool) → (IsTrue b → IsTrue c) → (b ≡ c) ⊎ (IsTrue c × (b ≡ false))
bit_step true c f = inl (sym (f refl))
bit_step false true f = inr (refl, refl)
bit_step false false f = inl refl

head_step : (g h : Head) → HeadRaises g h → Step g h ⊎ (g ≡ h)
head_step g h up = elim (bit_step g.barrier h.barrier up.bit) [
  | inr (set, clear) ↦ inl (record { part = Bit; raised = set; above = record { bit = λ b. absurd (true≢false (sym b ∙ clear)); acquire = up.acquire; release = up.release } })
  | inl bits ↦ elim (scope_step g.acquire h.acquire up.acquire) [
    | inr (some, reach) ↦ inl (record { part = AcquireScope; raised = some; above = record { bit = up.bit; acquire = reach; release = up.release } })
    | inl acquires ↦ elim (scope_step g.release h.release up.release) [
      | inr (some, reach) ↦ inl (record { part = ReleaseScope; raised = some; above = record { bit = up.bit; acquire = up.acquire; release = reach } })
      | inl releases ↦ inr (head_same g h bits acquires releases)
    ]
  ]
]

pub steps_suffice : StepsSuffice
steps_suffice j k none up o = elim (find (length k.packets) (λ p. Step (head_at j p) (head_at k p)) (λ p. head_at j p ≡ head_at k p) (λ p l. head_step (head_at j p) (head_at k p) (up.heads p))) [
  | inl (p, is, step) ↦ absurd (ordered_below p is step)
  | inr all ↦ same_by_heads j k up.same (λ p l. all p (omega (arith, l, same_length j.packets k.packets (packets_same j k up.same))))
]
  where
    ordered_below : (p : ℕ) → IsPacket k p → Step (head_at j p) (head_at k p) → ⊥
    ordered_below p is step =
        let head = lowered step.part (head_at k p) in
        none (with_head k p head) (record { p = p; is_packet = is; part = step.part; raised = step.raised; job_is = refl })
        (raised_is_ordered j (with_head k p head) ((heads_are_set k p head is).above j up step.above) o)
