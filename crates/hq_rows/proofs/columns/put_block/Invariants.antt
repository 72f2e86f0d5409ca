use Rattle.std.proofs.Common.{◌≡◌, ◌≢◌, ◌⊎◌, ℕ, ◌+◌, ◌*◌, ◌/◌, ◌<◌, slice_index}
use Rattle.hq_rows.specs.Turning.{word_of}
use Rattle.hq_rows.proofs.columns.put_block.Given as goal

abbrev pub invariant-loop-i : goal.invariant-loop-i
invariant-loop-i l = record {
  there : (k : ℕ) → k < l.i → word_of l.table (l.place * 64 + k) l.part ≡ slice_index l.block k;
  others : (p c : ℕ) → c < 16 → (p / 64 ≢ l.place) ⊎ (c ≢ l.part) → word_of l.table p c ≡ word_of l.fn.table p c;
}
