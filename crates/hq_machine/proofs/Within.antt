-- Only bytes of the job are ever dirty, whatever steps are taken.
use Rattle.std.proofs.Common.{◌≡◌, ℕ, inl, inr, sym, ◌∙◌, ap, subst, Bool, true, false, cond, Option, None, slice_index}
use Rattle.std.proofs.lemmas.Bool.{cases_eq, cases_Bool, cond-false, true≢false}
use Rattle.hq_model.specs.Job.{Job, packet, agent_of}
use Rattle.hq_model.specs.Machine.{State, Copy, Event, Step, IsByte, is_dirty, without_clean, clean, dirty, put2}
use Rattle.hq_model.specs.Machine.Event.{Submit, Launch, Observe, Enter, Read, Store, PushLane, PushAgent, FillLane, FillAgent, DropLane, DropAgent}
use Rattle.hq_model.specs.Theorems.{Valid}
use Rattle.hq_model.proofs.Sums.{put2_same, put2_other}
use Rattle.hq_machine.specs.View.{DirtyWithin}

put_inside : (P : ℕ → Type 0) (f : ℕ → ℕ → Option Copy) (k l : ℕ) (x : Option Copy) → ((m n : ℕ) → is_dirty (f m n) ≡ true → P n) → (is_dirty x ≡ true → P l) → (m n : ℕ) → is_dirty (put2 f k l x m n) ≡ true → P n
put_inside P f k l x was here m n d = elim (cases_eq m k) [
  | inl e ↦ elim (cases_eq n l) [
    | inl g ↦ subst P (sym g) (here (ap is_dirty (sym (put2_same f k l x m n e g)) ∙ d))
    | inr g ↦ was m n (ap is_dirty (sym (put2_other f k l x m n (λ _ h. g h))) ∙ d)
  ]
  | inr e ↦ was m n (ap is_dirty (sym (put2_other f k l x m n (λ h _. e h))) ∙ d)
]

dirty_before : (t : Bool) (copy : Option Copy) → is_dirty (cond t (without_clean copy) copy) ≡ true → is_dirty copy ≡ true
dirty_before false copy e = e
dirty_before true copy e = elim (cases_Bool (is_dirty copy)) [
  | inl d ↦ d
  | inr c ↦ absurd (true≢false (sym e ∙ ap is_dirty (cond-false (is_dirty copy) copy None c)))
]

pub within_step : (job : Job) (old : State) (event : Event) (new : State) → Valid job → DirtyWithin job old → Step job old event new → DirtyWithin job new
within_step job old Submit new valid k step = subst (DirtyWithin job) (sym step.2) (record { lanes = k.lanes; agents = k.agents })
within_step job old (Launch q) new valid k step = subst (DirtyWithin job) (sym step.2) (record { lanes = k.lanes; agents = k.agents })
within_step job old (Observe p slot) new valid k step = subst (DirtyWithin job) (sym step.6) (record { lanes = k.lanes; agents = k.agents })
within_step job old (Enter p) new valid k step = subst (DirtyWithin job) (sym step.3) (record {
  lanes = λ l b d. k.lanes l b (dirty_before _ (old.lane l b) d);
  agents = λ a b d. k.agents a b (dirty_before _ (old.agent a b) d);
})
within_step job old (Read p i) new valid k step = subst (DirtyWithin job) (sym step.4) (record { lanes = k.lanes; agents = k.agents })
within_step job old (Store p i) new valid k (there, active, read, within, fresh, is) = subst (DirtyWithin job) (sym is) (record {
  lanes = put_inside (IsByte job) old.lane p (slice_index (packet job p).writes i) _ k.lanes (λ d. valid.writes p i 0 within);
  agents = k.agents;
})
within_step job old (Event.Finish p) new valid k step = subst (DirtyWithin job) (sym step.5) (record { lanes = k.lanes; agents = k.agents })
within_step job old (PushLane p b) new valid k (v, there, within, held, is) = subst (DirtyWithin job) (sym is) (record {
  lanes = put_inside (IsByte job) old.lane p b (clean v) k.lanes (λ d. within);
  agents = put_inside (IsByte job) old.agent (agent_of job p) b (dirty v) k.agents (λ d. within);
})
within_step job old (PushAgent a b) new valid k (v, there, within, held, is) = subst (DirtyWithin job) (sym is) (record { lanes = k.lanes; agents = put_inside (IsByte job) old.agent a b (clean v) k.agents (λ d. within) })
within_step job old (FillLane p b) new valid k (there, within, held, is) = subst (DirtyWithin job) (sym is) (record { lanes = put_inside (IsByte job) old.lane p b _ k.lanes (λ d. within); agents = k.agents })
within_step job old (FillAgent a b) new valid k (there, within, held, is) = subst (DirtyWithin job) (sym is) (record { lanes = k.lanes; agents = put_inside (IsByte job) old.agent a b _ k.agents (λ d. within) })
within_step job old (DropLane p b) new valid k (v, there, within, held, is) = subst (DirtyWithin job) (sym is) (record { lanes = put_inside (IsByte job) old.lane p b None k.lanes (λ d. within); agents = k.agents })
within_step job old (DropAgent a b) new valid k (v, there, within, held, is) = subst (DirtyWithin job) (sym is) (record { lanes = k.lanes; agents = put_inside (IsByte job) old.agent a b None k.agents (λ d. within) })
