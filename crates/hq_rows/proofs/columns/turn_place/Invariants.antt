use Rattle.std.proofs.Common.{◌≡◌, ◌≢◌, ℕ, ◌/◌, ◌<◌}
use Rattle.hq_rows.specs.Turning.{IsPartTurned, word_of}
use Rattle.hq_rows.proofs.columns.turn_place.Given as goal

abbrev pub invariant-loop-part : goal.invariant-loop-part
invariant-loop-part l = record {
  done : (part : ℕ) → part < l.part → IsPartTurned l.rows l.place part l.table;
  others : (p c : ℕ) → c < 16 → p / 64 ≢ l.place → word_of l.table p c ≡ word_of l.fn.table p c;
}
