-- Packets that don't conflict.
use Rattle.std.proofs.Common.{◌≡◌, ℕ, ◌+◌, ◌<◌, ◌≤◌, inl, inr, IsTrue, Bool, false, subst, sym, ◌∙◌, arith}
use Rattle.std.proofs.lemmas.Bool.{cases_lt, true≢false}
use Rattle.hq_fence.specs.Judgement.{HaveConflict}
use Rattle.hq_model.specs.Job.{Job}
use Rattle.hq_parts.specs.Parts.{NeverConflict}
use Rattle.hq_audit.specs.Free.{RowFree}

-- those that are passed over
pub row_skipped : (job : Job) (a b c : ℕ) → RowFree job a b → ((s : ℕ) → b ≤ s → s < c → NeverConflict job a s) → RowFree job a c
row_skipped job a b c h none s above low = elim (cases_lt s b) [
  | inl ahead ↦ h s above ahead
  | inr behind ↦ none s behind low
]

pub row_next : (job : Job) (a b : ℕ) → RowFree job a b → NeverConflict job a b → RowFree job a (b + 1)
row_next job a b h here s above low = elim (cases_lt s b) [
  | inl ahead ↦ h s above ahead
  | inr behind ↦ subst (NeverConflict job a) (omega (arith, behind, low)) here
]

-- what a test that found no conflict says
pub never : (job : Job) (a b : ℕ) (t : Bool) → (HaveConflict job a b → IsTrue t) → t ≡ false → NeverConflict job a b
never job a b t h not_found kind conflict = true≢false (sym (h (kind, conflict)) ∙ not_found)
