use Rattle.std.proofs.Common.{ℕ, ◌≡◌, ◌<◌, ◌≤◌, take, slice_index_or}
use Rattle.hq_ordercheck.proofs.placing.numbers.Given as goal

abbrev pub invariant-loop-number : goal.invariant-loop-number
invariant-loop-number l = record {
  few : l.count ≤ 1024;
  all : (k d : ℕ) → k < l.number-index → slice_index_or l.list k d < l.count;
  same : l.numbers.items ≡ take l.number-index l.list;
}
