-- Which packet of a list or a queue is next.
use Rattle.std.proofs.Common.{◌≡◌, ◌≢◌, ℕ, ◌<◌, inl, inr, length, get_or, sym, ◌∙◌, ap, subst, arith}
use Rattle.std.proofs.lemmas.Bool.{cases_lt}
use Rattle.hq_model.specs.Job.{Job, IsPacket, Frees}
use Rattle.hq_model.specs.Order.{place}
use Rattle.hq_model.specs.Machine as machine
use Rattle.hq_model.specs.Machine.{State, MaySubmit}
use Rattle.hq_model.specs.Theorems.{Valid}
use Rattle.hq_model.proofs.Places.{at_place, place_once}
use Rattle.hq_machine.specs.Enabled.{IsFirstWaiting}

pub first_waits : (job : Job) (state : State) (k : ℕ) → Valid job → k < length job.submissions → state.phase (get_or job.submissions k 0) ≡ machine.Phase.Waiting
    → ((i : ℕ) → i < k → state.phase (get_or job.submissions i 0) ≢ machine.Phase.Waiting) → IsFirstWaiting job state (get_or job.submissions k 0)
first_waits job state k valid l waits before = record {
  is_packet = valid.submissions.packets k 0 l;
  waits = waits;
  next = λ e ahead.
      let here = place_once job.submissions k 0 valid.submissions.once l in
      let low : place job.submissions e < k = omega arith in
      subst (λ x. state.phase x ≢ machine.Phase.Waiting) (at_place job.submissions e 0 (omega arith)) (before (place job.submissions e) low);
}

pub none_waits : (job : Job) (state : State) → Valid job → ((i : ℕ) → i < length job.submissions → state.phase (get_or job.submissions i 0) ≢ machine.Phase.Waiting)
    → (p : ℕ) → IsPacket job p → state.phase p ≢ machine.Phase.Waiting
none_waits job state valid all p there =
    let i = valid.submissions.all p there in
    subst (λ x. state.phase x ≢ machine.Phase.Waiting) (at_place job.submissions p 0 i) (all (place job.submissions p) i)

one_first : (job : Job) (state : State) (p r : ℕ) → Valid job → IsFirstWaiting job state p → MaySubmit job state r → p ≡ r
one_first job state p r valid a b = elim (cases_lt (place job.submissions p) (place job.submissions r)) [
  | inl l ↦ absurd (b.next p l a.waits)
  | inr l ↦ elim (cases_lt (place job.submissions r) (place job.submissions p)) [
    | inl m ↦ absurd (a.next r m b.waits)
    | inr m ↦
        let e : place job.submissions p ≡ place job.submissions r = omega arith in
        sym (at_place job.submissions p 0 (valid.submissions.all p a.is_packet)) ∙ ap (λ k. get_or job.submissions k 0) e ∙ at_place job.submissions r 0 (valid.submissions.all r b.is_packet)
  ]
]

pub none_submittable : (job : Job) (state : State) (p : ℕ) → Valid job → IsFirstWaiting job state p → (((e : ℕ) → Frees job e p → state.phase e ≡ machine.Phase.Complete) → ⊥) → (r : ℕ) → MaySubmit job state r → ⊥
none_submittable job state p valid first no_slot r may =
    let e = one_first job state p r valid first may in
    no_slot (λ x f. may.slot x (subst (Frees job x) e f))

-- ---- launches
