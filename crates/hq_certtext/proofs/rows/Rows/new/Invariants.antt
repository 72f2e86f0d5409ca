use Rattle.std.proofs.Common.{◌≡◌, ℕ, ◌<◌, length, get_or}
use Rattle.hq_certtext.specs.declared.rows.Row.{Row}
use Rattle.hq_certtext.specs.Rows.{IsRow}
use Rattle.hq_certtext.proofs.rows.Rows.new.Given as goal

abbrev pub invariant-loop-number : goal.invariant-loop-number
invariant-loop-number l = record {
  long : length l.rows.items ≡ l.number;
  all : (n : ℕ) (d : Row) → n < l.number → IsRow n (get_or l.rows.items n d);
}
