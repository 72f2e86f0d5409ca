-- What a barrier packet's slots say.
use Rattle.std.proofs.Common.{◌≡◌, ℕ, ◌+◌, ◌<◌, ◌↔◌, inl, inr, Bool, true, false, List, length, sym, ◌∙◌, ap, subst, arith, Option, None, Some, IsTrue, slice_get, slice_index_or}
use Rattle.std.proofs.lemmas.Bool.{cases_eq, false≢true}
use Rattle.std.proofs.lemmas.Option.{slice_get-get_or, slice_get_within}
use Rattle.hq_model.specs.Job.{Job, packet, IsPacket, Dependency}
use Rattle.hq_ordercheck.proofs.Options.{some_same}

module _ (job : Job) (r : ℕ) (slots : List (Option ℕ)) (same : slots ≡ (packet job r).deps) where
  pub slot_says : (slot s : ℕ) → IsPacket job r → slot < length slots → slice_index_or slots slot None ≡ Some s → Dependency job r slot s
  slot_says slot s is below e = record { is_packet = is; signal = subst (λ ds. slice_get ds slot ≡ Some (Some s)) same (slice_get-get_or slots slot None below ∙ ap Some e) }

  read : (slot s : ℕ) → Dependency job r slot s → slice_get slots slot ≡ Some (Some s)
  read slot s d = subst (λ ds. slice_get ds slot ≡ Some (Some s)) (sym same) d.signal

  pub slot_within : (slot s : ℕ) → Dependency job r slot s → slot < length slots
  slot_within slot s d = slice_get_within slots slot (Some s) (read slot s d)

  pub slot_of : (slot s : ℕ) → Dependency job r slot s → slice_index_or slots slot None ≡ Some s
  slot_of slot s d = some_same (slice_index_or slots slot None) (Some s) (sym (slice_get-get_or slots slot None (slot_within slot s d)) ∙ read slot s d)

  -- what holds of all signals in slots below i holds of those below i + 1
  pub slots_more : (P : ℕ → Type 0) (i : ℕ) → ((slot s : ℕ) → slot < i → Dependency job r slot s → P s) → ((s : ℕ) → slice_index_or slots i None ≡ Some s → P s) → (slot s : ℕ) → slot < i + 1 → Dependency job r slot s → P s
  slots_more P i below here = λ slot s l d. elim (cases_eq slot i) [
    | inl at ↦ here s (subst (λ k. slice_index_or slots k None ≡ Some s) at (slot_of slot s d))
    | inr apart ↦ below slot s (omega (arith, l, apart)) d
  ]

-- a test of what a slot says, by its answer
pub is_so : (P : ℕ → Type 0) (answer : Bool) (s t : ℕ) → answer ≡ true → IsTrue answer ↔ P s → Some s ≡ Some t → P t
is_so P answer s t told is e = subst P (some_same s t e) (is.0 told)

pub is_not_so : (P : ℕ → Type 0) (answer : Bool) (s t : ℕ) → answer ≡ false → IsTrue answer ↔ P s → Some s ≡ Some t → P t → ⊥
is_not_so P answer s t told is e p = false≢true (sym told ∙ is.1 (subst P (sym (some_same s t e)) p))
