use Rattle.std.proofs.Common.{ℕ, ◌≡◌, ◌+◌, ◌*◌, ◌↔◌, ◌⊎◌, IsTrue}
use Rattle.hq_bits.specs.Bits.{has}
use Rattle.hq_bits.proofs.Walked.{Gone, Under}
use Rattle.hq_bits.proofs.turn_word.Given as goal

abbrev pub invariant-each : goal.invariant-each
invariant-each l = record {
  under : Under l.word l.rest;
  exact : (x : ℕ) → IsTrue (has l.table x) ↔ (IsTrue (has l.fn.table x) ⊎ Gone l.word l.rest (λ bit. x ≡ (l.first + bit) * 1024 + l.r));
}

abbrev pub decreases-each : goal.decreases-each
decreases-each l = l.rest
