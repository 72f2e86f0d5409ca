use Rattle.std.proofs.Common.{◌≡◌, ◌↔◌, ◌/◌, ◌%◌, ◌*◌, ℕ, ◌<◌, length}
use Rattle.hq_bits.specs.declared.TheConstants.{WORDS}
use Rattle.hq_rows.specs.Uniting.{OfChoice, Unites, union}
use Rattle.hq_rows.proofs.gathering.all_unions.Given as goal

abbrev pub invariant-loop-entry : goal.invariant-loop-entry
invariant-loop-entry l = record {
  count : l.count ≡ WORDS * 256;
  len : length l.unions.items ≡ l.entry;
  width : (k : ℕ) → k < l.entry → length (union l.unions.items k) ≡ WORDS;
  exact : (k p : ℕ) → k < l.entry → Unites l.unions.items p k ↔ OfChoice l.rows (k / 16) (k % 16) p;
}
