-- Packets that are passed over, since they never conflict.
use Rattle.std.proofs.Common.{◌≡◌, ℕ, ◌<◌, ◌≤◌, inl, inr, List, subst}
use Rattle.std.proofs.lemmas.Bool.{cases_lt}
use Rattle.hq_model.specs.Job.{Job}
use Rattle.hq_parts.specs.Parts.{NeverConflict}
use Rattle.hq_audit.specs.declared.draft.Draft.{Draft}
use Rattle.hq_audit.specs.Refused.{RowShown}
use Rattle.hq_audit.specs.Paired.{RowPaired}

pub row_skipped : (job k : Job) (a b c : ℕ) → k ≡ job → RowShown job a b → ((s : ℕ) → b ≤ s → s < c → NeverConflict k a s) → RowShown job a c
row_skipped job k a b c same h none = λ s above low is. elim (cases_lt s b) [
  | inl ahead ↦ h s above ahead is
  | inr behind ↦ inl (λ kind conflict. absurd (subst (λ j. NeverConflict j a s) same (none s behind low) kind conflict))
]

pub row_paired_skipped : (job k : Job) (ps : List Draft) (a b c : ℕ) → k ≡ job → RowPaired job ps a b → ((s : ℕ) → b ≤ s → s < c → NeverConflict k a s) → RowPaired job ps a c
row_paired_skipped job k ps a b c same h none = λ s above low is. elim (cases_lt s b) [
  | inl ahead ↦ h s above ahead is
  | inr behind ↦ inl (λ kind conflict. absurd (subst (λ j. NeverConflict j a s) same (none s behind low) kind conflict))
]
