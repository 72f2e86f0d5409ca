-- Single heads, lowered and raised.
use Rattle.std.proofs.Common.{◌≡◌, ◌≢◌, ◌⊎◌, inl, inr, Bool, true, false, IsTrue, refl, sym, ◌∙◌, ap}
use Rattle.std.proofs.lemmas.Bool.{true≢false}
use Rattle.hq_packet.specs.declared.packet.Head.{Head}
use Rattle.hq_packet.specs.declared.packet.Scope.{Scope}
use Rattle.hq_packet.specs.declared.packet.Scope.TheVariants as scope
use Rattle.hq_packet.specs.Scopes.{reaches}
use Rattle.hq_model.specs.Settings.{HeadRaises, Part, scope_below, lowered, IsRaised, no_head}
use Rattle.hq_model.specs.Settings.Part.{Bit, AcquireScope, ReleaseScope}
use Rattle.hq_model.proofs.SettingsRaised.{reaches_on}
use Rattle.hq_model.proofs.SettingsSteps.{Step}
use Rattle.hq_change.specs.declared.level.Level.{Level}
use Rattle.hq_change.specs.declared.level.Level.TheVariants as level
use Rattle.hq_change.specs.Levels.{IsAt, part_of}

reaches_itself : (s : Scope) → IsTrue (reaches s s)
reaches_itself scope.None = refl
reaches_itself scope.Agent = refl
reaches_itself scope.System = refl

pub head_itself : (g : Head) → HeadRaises g g
head_itself g = record { bit = λ b. b; acquire = reaches_itself g.acquire; release = reaches_itself g.release }

pub head_on : (g h m : Head) → HeadRaises g h → HeadRaises h m → HeadRaises g m
head_on g h m up more = record {
  bit = λ b. more.bit (up.bit b);
  acquire = reaches_on m.acquire h.acquire g.acquire more.acquire up.acquire;
  release = reaches_on m.release h.release g.release more.release up.release;
}

pub none_is_lowest : (g : Head) → HeadRaises no_head g
none_is_lowest g = record { bit = λ b. absurd (true≢false (sym b)); acquire = refl; release = refl }

-- ---- one level lower

below_reached : (s : Scope) → IsTrue (reaches s (scope_below s))
below_reached scope.None = refl
below_reached scope.Agent = refl
below_reached scope.System = refl

pub lowered_below : (part : Part) (g : Head) → HeadRaises (lowered part g) g
lowered_below Bit g = record { bit = λ b. absurd (true≢false (sym b)); acquire = reaches_itself g.acquire; release = reaches_itself g.release }
lowered_below AcquireScope g = record { bit = λ b. b; acquire = below_reached g.acquire; release = reaches_itself g.release }
lowered_below ReleaseScope g = record { bit = λ b. b; acquire = reaches_itself g.acquire; release = below_reached g.release }

below_up : (s t : Scope) → IsTrue (reaches t s) → IsTrue (reaches (scope_below t) (scope_below s))
below_up scope.None t f = refl
below_up scope.Agent t f = refl
below_up scope.System scope.System f = refl
below_up scope.System scope.Agent f = absurd (true≢false (sym f))
below_up scope.System scope.None f = absurd (true≢false (sym f))

-- where a head is above another, it still is once both are one level lower
pub lowered_up : (part : Part) (g h : Head) → HeadRaises g h → HeadRaises (lowered part g) (lowered part h)
lowered_up Bit g h up = record { bit = λ b. b; acquire = up.acquire; release = up.release }
lowered_up AcquireScope g h up = record { bit = up.bit; acquire = below_up g.acquire h.acquire up.acquire; release = up.release }
lowered_up ReleaseScope g h up = record { bit = up.bit; acquire = up.acquire; release = below_up g.release h.release up.release }

some_up : (s t : Scope) → IsTrue (reaches t s) → s ≢ scope.None → t ≢ scope.None
some_up scope.None t f some e = some refl
some_up scope.Agent scope.None f some e = true≢false (sym f)
some_up scope.Agent scope.Agent f some e = absurd (cc)
some_up scope.Agent scope.System f some e = absurd (cc)
some_up scope.System scope.None f some e = true≢false (sym f)
some_up scope.System scope.Agent f some e = absurd (cc)
some_up scope.System scope.System f some e = absurd (cc)

pub raised_up : (part : Part) (g h : Head) → HeadRaises g h → IsRaised part g → IsRaised part h
raised_up Bit g h up r = up.bit r
raised_up AcquireScope g h up r = some_up g.acquire h.acquire up.acquire r
raised_up ReleaseScope g h up r = some_up g.release h.release up.release r

-- ---- levels

not_agent : scope.Agent ≢ scope.System
not_agent e = cc

not_none : scope.None ≢ scope.Agent
not_none e = cc

-- a head that was lowered isn't at the level any more
pub lowered_not_at : (l : Level) (g : Head) → IsAt l g → ¬ IsAt l (lowered (part_of l) g)
lowered_not_at level.ReleaseSystem g at e = not_agent (sym (ap scope_below at) ∙ e)
lowered_not_at level.AcquireSystem g at e = not_agent (sym (ap scope_below at) ∙ e)
lowered_not_at level.ReleaseAgent g at e = not_none (sym (ap scope_below at) ∙ e)
lowered_not_at level.AcquireAgent g at e = not_none (sym (ap scope_below at) ∙ e)
lowered_not_at level.Bit g at e = true≢false (sym e)

-- a fence that is lowered leaves the bit
pub lowered_bit : (l : Level) (g : Head) → l ≢ level.Bit → (lowered (part_of l) g).barrier ≡ g.barrier
lowered_bit level.ReleaseSystem g n = refl
lowered_bit level.AcquireSystem g n = refl
lowered_bit level.ReleaseAgent g n = refl
lowered_bit level.AcquireAgent g n = refl
lowered_bit level.Bit g n = absurd (n refl)

-- ---- the way down from a head to one below it

head_same : (g h : Head) → g.barrier ≡ h.barrier → g.acquire ≡ h.acquire → g.release ≡ h.release → g ≡ h
head_same g h b a r = λ i. record { barrier = b i; acquire = a i; release = r i }

agent≢none : scope.Agent ≢ scope.None
agent≢none e = cc

system≢none : scope.System ≢ scope.None
system≢none e = cc

scope_step : (s t : Scope) → IsTrue (reaches t s) → (s ≡ t) ⊎ ((t ≢ scope.None) × IsTrue (reaches (scope_below t) s))
scope_step scope.None scope.None f = inl refl
scope_step scope.None scope.Agent f = inr (agent≢none, refl)
scope_step scope.None scope.System f = inr (system≢none, refl)
scope_step scope.Agent scope.None f = absurd (true≢false (sym f))
scope_step scope.Agent scope.Agent f = inl refl
scope_step scope.Agent scope.System f = inr (system≢none, refl)
scope_step scope.System scope.None f = absurd (true≢false (sym f))
scope_step scope.System scope.Agent f = absurd (true≢false (sym f))
scope_step scope.System scope.System f = inl refl

bit_step : (b c : Bool) → (IsTrue b → IsTrue c) → (b ≡ c) ⊎ (IsTrue c × (b ≡ false))
bit_step true c f = inl (sym (f refl))
bit_step false true f = inr (refl, refl)
bit_step false false f = inl refl

pub head_step : (g h : Head) → HeadRaises g h → Step g h ⊎ (g ≡ h)
head_step g h up = elim (bit_step g.barrier h.barrier up.bit) [
  | inr (set, clear) ↦ inl (record { part = Bit; raised = set; above = record { bit = λ b. absurd (true≢false (sym b ∙ clear)); acquire = up.acquire; release = up.release } })
  | inl bits ↦ elim (scope_step g.acquire h.acquire up.acquire) [
    | inr (some, reach) ↦ inl (record { part = AcquireScope; raised = some; above = record { bit = up.bit; acquire = reach; release = up.release } })
    | inl acquires ↦ elim (scope_step g.release h.release up.release) [
      | inr (some, reach) ↦ inl (record { part = ReleaseScope; raised = some; above = record { bit = up.bit; acquire = up.acquire; release = reach } })
      | inl releases ↦ inr (head_same g h bits acquires releases)
    ]
  ]
]
