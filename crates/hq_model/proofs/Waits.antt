-- What a packet waits for, where each packet is left or isn't.
use Rattle.std.proofs.Common.{◌≡◌, ℕ, ◌<◌, ◌⊎◌, inl, inr, length, sym, subst, arith, slice_get}
use Rattle.hq_model.specs.Job.{Job, packet, IsPacket, Earlier, Dependency, Decrements}
use Rattle.hq_model.proofs.Kept.{some_same}
use Rattle.hq_model.proofs.Bound.{slot_there}
use Rattle.hq_model.proofs.Finds.{find, earlier_or_not, decrements_or_not, dependency_or_not}

module _ (job : Job) (Left Gone : ℕ → Type 0) (each : (d : ℕ) → IsPacket job d → Left d ⊎ Gone d) where
  -- some decrementer is left, or none is
  pub of_signal : (s : ℕ) → ((d : ℕ) × Decrements job d s × Left d) ⊎ ((d : ℕ) → Decrements job d s → Gone d)
  of_signal s = elim (find (length job.packets) (λ d. Decrements job d s × Left d) (λ d. Decrements job d s → Gone d) one) [
    | inl f ↦ inl (f.0, f.2.0, f.2.1)
    | inr all ↦ inr (λ d f. all d f.is_packet f)
  ]
    where
      one : (d : ℕ) → d < length job.packets → (Decrements job d s × Left d) ⊎ (Decrements job d s → Gone d)
      one d l = elim (each d l) [
        | inr g ↦ inr (λ _. g)
        | inl h ↦ elim (decrements_or_not job d s l) [
          | inl f ↦ inl (f, h)
          | inr none ↦ inr (λ f. absurd (none f))
        ]
      ]

  module _ (r : ℕ) (there : IsPacket job r) where
    -- some earlier packet of its queue is left, or none is
    pub of_queue : ((e : ℕ) × Earlier job e r × Left e) ⊎ ((e : ℕ) → Earlier job e r → Gone e)
    of_queue = elim (find (length job.packets) (λ e. Earlier job e r × Left e) (λ e. Earlier job e r → Gone e) one) [
      | inl f ↦ inl (f.0, f.2.0, f.2.1)
      | inr all ↦ inr (λ e f. all e (omega (arith, f.ahead, there)) f)
    ]
      where
        one : (e : ℕ) → e < length job.packets → (Earlier job e r × Left e) ⊎ (Earlier job e r → Gone e)
        one e l = elim (each e l) [
          | inr g ↦ inr (λ _. g)
          | inl h ↦ elim (earlier_or_not job e r there) [
            | inl f ↦ inl (f, h)
            | inr none ↦ inr (λ f. absurd (none f))
          ]
        ]

    same_signal : (slot s t : ℕ) → Dependency job r slot s → Dependency job r slot t → t ≡ s
    same_signal slot s t w v = some_same (slice_get (packet job r).deps slot) s t w.signal v.signal

    -- some decrementer of some dependency is left, or none is
    pub of_each : ((slot : ℕ) × (s : ℕ) × (d : ℕ) × Dependency job r slot s × Decrements job d s × Left d)
        ⊎ ((slot s d : ℕ) → Dependency job r slot s → Decrements job d s → Gone d)
    of_each = elim (find (length (packet job r).deps) ThereIs ThereIsNone one) [
      | inl f ↦ inl (f.0, f.2.0, f.2.1, f.2.2, f.2.3, f.2.4)
      | inr all ↦ inr (λ slot s d w f. all slot (slot_there (packet job r).deps slot s w.signal).0 s d w f)
    ]
      where
        ThereIs : ℕ → Type 0
        ThereIs slot = (s : ℕ) × (d : ℕ) × Dependency job r slot s × Decrements job d s × Left d

        ThereIsNone : ℕ → Type 0
        ThereIsNone slot = (s d : ℕ) → Dependency job r slot s → Decrements job d s → Gone d

        one : (slot : ℕ) → slot < length (packet job r).deps → ThereIs slot ⊎ ThereIsNone slot
        one slot l = elim (dependency_or_not job r slot there) [
          | inr none ↦ inr (λ s d w f. absurd (none s w))
          | inl w ↦ elim (of_signal w.0) [
            | inl f ↦ inl (w.0, f.0, w.1, f.1, f.2)
            | inr all ↦ inr (λ t d v f. all d (subst (λ x. Decrements job d x) (same_signal slot w.0 t w.1 v) f))
          ]
        ]

    -- of some dependency no decrementer is left, or of each some is
    pub of_some : ((slot : ℕ) × (s : ℕ) × Dependency job r slot s × ((d : ℕ) → Decrements job d s → Gone d))
        ⊎ ((slot s : ℕ) → Dependency job r slot s → (d : ℕ) × Decrements job d s × Left d)
    of_some = elim (find (length (packet job r).deps) ThereIs ThereIsNone one) [
      | inl f ↦ inl (f.0, f.2.0, f.2.1, f.2.2)
      | inr all ↦ inr (λ slot s w. all slot (slot_there (packet job r).deps slot s w.signal).0 s w)
    ]
      where
        ThereIs : ℕ → Type 0
        ThereIs slot = (s : ℕ) × Dependency job r slot s × ((d : ℕ) → Decrements job d s → Gone d)

        ThereIsNone : ℕ → Type 0
        ThereIsNone slot = (s : ℕ) → Dependency job r slot s → (d : ℕ) × Decrements job d s × Left d

        one : (slot : ℕ) → slot < length (packet job r).deps → ThereIs slot ⊎ ThereIsNone slot
        one slot l = elim (dependency_or_not job r slot there) [
          | inr none ↦ inr (λ s w. absurd (none s w))
          | inl w ↦ elim (of_signal w.0) [
            | inr all ↦ inl (w.0, w.1, all)
            | inl f ↦ inr (λ t v. (f.0, subst (λ x. Decrements job f.0 x) (sym (same_signal slot w.0 t w.1 v)) f.1, f.2))
          ]
        ]
