use Rattle.std.proofs.Common.{ℕ, ◌+◌, ◌*◌, ◌↔◌, ◌⊎◌, IsTrue}
use Rattle.hq_bits.specs.Bits.{has, Grown}
use Rattle.hq_rows.specs.Matrix.{Marks}
use Rattle.hq_bits.proofs.Walked.{Gone, Under}
use Rattle.hq_rows.proofs.gathering.unite_each.Given as goal

abbrev pub invariant-each : goal.invariant-each
invariant-each l = record {
  under : Under l.word l.rest;
  grown : Grown l.fn.new l.new;
  exact : (p : ℕ) → IsTrue (has l.new p) ↔ (IsTrue (has l.fn.new p) ⊎ Gone l.word l.rest (λ bit. Marks l.rows p (l.place * 64 + bit)));
}

abbrev pub decreases-each : goal.decreases-each
decreases-each l = l.rest
