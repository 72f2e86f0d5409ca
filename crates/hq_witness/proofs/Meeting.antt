-- Whether one of two packets reads what the other writes, by the ways in which they conflict.
use Rattle.std.proofs.Common.{◌≡◌, ◌↔◌, ◌⊎◌, ℕ, inl, inr, true, false, true≢false, IsTrue, sym, ◌∙◌}
use Rattle.hq_footprint.specs.declared.conflicts.Kinds.{Kinds}
use Rattle.hq_job.specs.Conflicts.{HasConflicts}
use Rattle.hq_model.specs.Job.{Job}
use Rattle.hq_model.specs.Fence.{Conflicts}
use Rattle.hq_model.specs.Fence.Conflict.{ReadWrite, WriteRead}

-- where the first writes what the second reads
pub met_written : (job : Job) (a b : ℕ) (kinds : Kinds) → HasConflicts job a b kinds → kinds.wr ≡ true → IsTrue kinds.wr ↔ (Conflicts job WriteRead a b ⊎ Conflicts job ReadWrite a b)
met_written job a b kinds h e = (λ t. inl (h.wr.0 t), λ s. e)

-- and where it doesn't
pub met_read : (job : Job) (a b : ℕ) (kinds : Kinds) → HasConflicts job a b kinds → kinds.wr ≡ false → IsTrue kinds.rw ↔ (Conflicts job WriteRead a b ⊎ Conflicts job ReadWrite a b)
met_read job a b kinds h e = (λ t. inr (h.rw.0 t), back)
  where
    back : (Conflicts job WriteRead a b ⊎ Conflicts job ReadWrite a b) → IsTrue kinds.rw
    back (inl w) = absurd (true≢false (sym (h.wr.1 w) ∙ e))
    back (inr r) = h.rw.1 r
