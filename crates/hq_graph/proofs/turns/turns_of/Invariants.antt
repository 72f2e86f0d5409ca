use Rattle.std.proofs.Common.{◌≡◌, length}
use Rattle.hq_model.specs.Order.{place}
use Rattle.hq_rows.specs.Lists.{AllAre}
use Rattle.hq_graph.proofs.turns.turns_of.Given as goal

abbrev pub invariant-loop-number : goal.invariant-loop-number
invariant-loop-number l = record {
  are : AllAre (λ p turn. turn ≡ place l.job.submissions p) l.turns.items;
  count : length l.turns.items ≡ l.number;
}
