-- While a packet isn't complete, nothing that it holds back has begun.
use Rattle.std.proofs.Common.{◌≡◌, ℕ, ◌≢◌, ◌⊎◌, inl, inr, List, [], ◌∷◌, refl, sym, ◌∙◌, ap, subst, true}
use Rattle.std.proofs.lemmas.Bool.{cases_eq}
use Rattle.hq_model.specs.Job.{Job}
use Rattle.hq_model.specs.Order.{In}
use Rattle.hq_model.specs.Machine.{State, Phase, Event, Step, Steps, WaitOver, is_launched, first_phase, start, put}
use Rattle.hq_model.specs.Machine.Phase.{InQueue, Launched, Active, Complete}
use Rattle.hq_model.specs.Machine.Event.{Submit, Launch, Observe, Enter, Read, Store, PushLane, PushAgent, FillLane, FillAgent, DropLane, DropAgent}
use Rattle.hq_model.specs.Theorems.{Valid, Balanced}
use Rattle.hq_model.specs.HoldsBack.{AlwaysBefore, NeedsOneOf, HoldsBack}
use Rattle.hq_model.specs.HoldsBack.NeedsOneOf.{for_bit, for_queue, for_and, for_or}
use Rattle.hq_model.proofs.Sums.{put_other}
use Rattle.hq_model.proofs.Places.{in_or_not, in_rest}
use Rattle.hq_model.proofs.Kept.{KeptBy, IsBegun, kept_start, kept_step, waiting≢complete, launched≢complete, active≢complete, first_waits, launched_not_begun, begun≢waiting, begun_before, complete_stays, launched_upto}

-- a packet that may enter has one of those that it needs behind it
some_complete : (job : Job) (set : List ℕ) (old : State) (x : ℕ) → KeptBy job old → NeedsOneOf job set x → is_launched (old.phase x) ≡ true → WaitOver job old x
    → (e : ℕ) × In set e × (old.phase e ≡ Complete)
some_complete job set old x k (for_bit e j by i) launched over = (e, i, k.bit j e by.earlier by.bit (launched_upto old k j x by.upto launched))
some_complete job set old x k (for_queue e by i) launched over = (e, i, k.barriers x e by.earlier by.barrier launched)
some_complete job set old x k (for_and d slot s by i) launched over = (d, i, k.over x slot s d by.dependency (over.each by.kind slot s by.dependency) by.decrements)
some_complete job set old x k (for_or any each) launched over =
    let (place, t, v, o) = over.one any.kind in
    let (d, f, i) = each place t v in
    (d, i, k.over x place t d v o f)

module _ (job : Job) (p : ℕ) (set : List ℕ) (needs : (x : ℕ) → In set x → NeedsOneOf job (p ∷ set) x) where
  abbrev Holding : (ℕ → Phase) → Type 0
  Holding phase = (phase p ≡ Complete) ⊎ ((x : ℕ) → In set x → IsBegun (phase x) → ⊥)

  abbrev HoldingIn : State → Type 0
  HoldingIn state = Holding state.phase

  holding_put : (phase : ℕ → Phase) (q : ℕ) (new : Phase) → phase q ≢ Complete → (IsBegun new → IsBegun (phase q)) → Holding phase → Holding (put phase q new)
  holding_put phase q new unfinished begun (inl c) = inl (complete_stays phase q new p unfinished c)
  holding_put phase q new unfinished begun (inr none) = inr (λ x i b. none x i (begun_before phase q new x begun b))

  holding_enter : (old : State) (q : ℕ) → KeptBy job old → old.phase q ≡ Launched → WaitOver job old q → Holding old.phase → Holding (put old.phase q Active)
  holding_enter old q k is over (inl c) = inl (complete_stays old.phase q Active p (launched≢complete (old.phase q) is) c)
  holding_enter old q k is over (inr none) = elim (in_or_not set q) [
    | inl i ↦
        let (e, j, c) = some_complete job (p ∷ set) old q k (needs q i) (ap is_launched is) over in
        elim (cases_eq p e) [
          | inl same ↦ inl (complete_stays old.phase q Active p (launched≢complete (old.phase q) is) (ap old.phase same ∙ c))
          | inr d ↦ absurd (none e (in_rest p set e d j) (inr c))
        ]
    | inr out ↦ inr (λ x i b. elim (cases_eq x q) [
      | inl same ↦ out (subst (In set) same i)
      | inr d ↦ none x i (subst IsBegun (put_other old.phase q Active x d) b)
    ])
  ]

  holding_step : (old : State) (event : Event) (new : State) → KeptBy job old → Holding old.phase → Step job old event new → HoldingIn new
  holding_step old Submit new k h (q, may, is) =
      subst HoldingIn (sym is) (holding_put old.phase q InQueue (waiting≢complete (old.phase q) (ap is_launched may.waits)) (λ b. absurd (begun≢waiting InQueue b refl)) h)
  holding_step old (Launch _) new k h (q, may, is) =
      subst HoldingIn (sym is) (holding_put old.phase q Launched (waiting≢complete (old.phase q) (ap is_launched may.waits)) (λ b. absurd (launched_not_begun Launched refl b)) h)
  holding_step old (Enter q) new k h (there, launched, over, is) = subst HoldingIn (sym is) (holding_enter old q k launched over h)
  holding_step old (Event.Finish q) new k h (there, active, read, stored, released, is) =
      subst HoldingIn (sym is) (holding_put old.phase q Complete (active≢complete (old.phase q) active) (λ b. inl active) h)
  holding_step old (Observe q slot) new k h step = subst HoldingIn (sym step.6) h
  holding_step old (Read q i) new k h step = subst HoldingIn (sym step.4) h
  holding_step old (Store q i) new k h step = subst HoldingIn (sym step.5) h
  holding_step old (PushLane q b) new k h step = subst HoldingIn (sym step.4) h
  holding_step old (PushAgent a b) new k h step = subst HoldingIn (sym step.4) h
  holding_step old (FillLane q b) new k h step = subst HoldingIn (sym step.3) h
  holding_step old (FillAgent a b) new k h step = subst HoldingIn (sym step.3) h
  holding_step old (DropLane q b) new k h step = subst HoldingIn (sym step.4) h
  holding_step old (DropAgent a b) new k h step = subst HoldingIn (sym step.4) h

  holding_steps : (old : State) (events : List Event) (new : State) → Balanced job → KeptBy job old → Holding old.phase → Steps job old events new → HoldingIn new
  holding_steps old [] new balanced k h is = subst HoldingIn (sym is) h
  holding_steps old (event ∷ events) new balanced k h (mid, step, rest) =
      holding_steps mid events new balanced (kept_step job old event mid balanced k step) (holding_step old event mid k h step) rest

pub held_back : (job : Job) (p r : ℕ) → Valid job → HoldsBack job p r → AlwaysBefore job p r
held_back job p r valid held events state run begun =
    let early : (x : ℕ) → In held.set x → IsBegun (first_phase job) → ⊥ = λ x i b. begun≢waiting (first_phase job) b (first_waits job) in
    elim (holding_steps job p held.set held.needs (start job) events state valid.balanced (kept_start job) (inr early) run) [
      | inl c ↦ c
      | inr none ↦ absurd (none r held.member begun)
    ]
