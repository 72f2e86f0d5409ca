-- Whether a packet in queue may be launched.
use Rattle.std.proofs.Common.{◌≡◌, ℕ, ◌≢◌, ◌⊎◌, inl, inr, IsTrue, refl, sym, ◌∙◌, ap, false}
use Rattle.std.proofs.lemmas.Bool.{cases_Bool, true≢false}
use Rattle.hq_model.specs.Job.{Job, Kind, packet, IsPacket, Earlier, IsBarrier}
use Rattle.hq_model.specs.Job.Kind.{Work, BarrierAnd, BarrierOr}
use Rattle.hq_model.specs.Machine.{State, Phase, MayLaunch, is_launched}
use Rattle.hq_model.specs.Machine.Phase.{Waiting, InQueue, Launched, Active, Complete}
use Rattle.hq_model.proofs.Kept.{waiting≢complete, launched≢complete, active≢complete}
use Rattle.hq_model.proofs.Waits.{of_queue}
use Rattle.hq_model.proofs.Completed.{and≢work, or≢work}

pub open_or_complete : (phase : Phase) → (phase ≢ Complete) ⊎ (phase ≡ Complete)
open_or_complete Waiting = inl (waiting≢complete Waiting refl)
open_or_complete InQueue = inl (waiting≢complete InQueue refl)
open_or_complete Launched = inl (launched≢complete Launched refl)
open_or_complete Active = inl (active≢complete Active refl)
open_or_complete Complete = inr refl

pub barrier_or_work : (kind : Kind) → (kind ≢ Work) ⊎ (kind ≡ Work)
barrier_or_work Work = inr refl
barrier_or_work BarrierAnd = inl (and≢work BarrierAnd refl)
barrier_or_work BarrierOr = inl (or≢work BarrierOr refl)

module _ (job : Job) (state : State) where
  -- an earlier packet that x's launch waits for, or doesn't
  abbrev pub Stops : ℕ → ℕ → Type 0
  Stops x e = (is_launched (state.phase e) ≡ false) ⊎ ((IsTrue (packet job x).bit ⊎ IsBarrier job e) × (state.phase e ≢ Complete))

  record Passes (x e : ℕ) : Type 0 where
    pub next : IsTrue (is_launched (state.phase e))
    pub bit : IsTrue (packet job x).bit → state.phase e ≡ Complete
    pub barrier : IsBarrier job e → state.phase e ≡ Complete

  stops_or_passes : (x e : ℕ) → IsPacket job e → Stops x e ⊎ Passes x e
  stops_or_passes x e there = elim (open_or_complete (state.phase e)) [
    | inr c ↦ inr (record { next = ap is_launched c; bit = λ _. c; barrier = λ _. c })
    | inl o ↦ elim (cases_Bool (is_launched (state.phase e))) [
      | inr none ↦ inl (inl none)
      | inl gone ↦ elim (cases_Bool (packet job x).bit) [
        | inl b ↦ inl (inr (inl b, o))
        | inr none ↦ elim (barrier_or_work (packet job e).kind) [
          | inl b ↦ inl (inr (inr b, o))
          | inr work ↦ inr (record { next = gone; bit = λ b. absurd (true≢false (sym b ∙ none)); barrier = λ b. absurd (b work) })
        ]
      ]
    ]
  ]

  -- x may be launched, or an earlier packet stops it
  pub may_launch : (x : ℕ) → IsPacket job x → state.phase x ≡ InQueue → ((e : ℕ) × Earlier job e x × Stops x e) ⊎ MayLaunch job state (packet job x).queue x
  may_launch x there waits = elim (of_queue job (Stops x) (Passes x) (stops_or_passes x) x there) [
    | inl f ↦ inl f
    | inr all ↦ inr (record {
      is_packet = there;
      queue = refl;
      waits = waits;
      next = λ e f. (all e f).next;
      bit = λ b e f. (all e f).bit b;
      barriers = λ e f b. (all e f).barrier b;
    })
  ]

  -- what an earlier packet stops may not be launched
  pub stopped : (q x e : ℕ) → Earlier job e x → Stops x e → MayLaunch job state q x → ⊥
  stopped q x e f (inl none) may = true≢false (sym (may.next e f) ∙ none)
  stopped q x e f (inr (inl b, o)) may = o (may.bit b e f)
  stopped q x e f (inr (inr b, o)) may = o (may.barriers e f b)
