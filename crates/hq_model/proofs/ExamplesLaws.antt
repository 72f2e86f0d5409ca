-- The rows, put together as their laws.
use Rattle.std.proofs.Common.{refl}
use Rattle.hq_model.specs.ExamplesHold.{OrderedRows, ResultsOfRows, RefusedRows, EitherRows, MissedRows, StuckRows, RunsOfRows}
use Rattle.hq_model.proofs.ExamplesFirst as plain
use Rattle.hq_model.proofs.ExamplesChained as chain
use Rattle.hq_model.proofs.ExamplesRings as rings
use Rattle.hq_model.proofs.ExamplesMore as more
use Rattle.hq_model.proofs.ExamplesEither as choice
use Rattle.hq_model.proofs.ExamplesBack as back
use Rattle.hq_model.proofs.ExamplesRuns as run

pub rows_are_ordered : OrderedRows
rows_are_ordered = record {
  fill_copy_valid = plain.valid;
  fill_copy_certified = choice.fill_copy_certified;
  fill_copy_ordered = plain.ordered;
  copy_fill_ordered = more.copy_fill_ordered;
  chained_valid = chain.valid;
  chained_certified = chain.holds;
  chained_ordered = chain.ordered;
  either_certified = choice.either_certified;
  either_ordered = choice.either_ordered;
  ring_valid = rings.valid;
  ring_ordered = rings.ordered;
}

pub rows_give_results : ResultsOfRows
rows_give_results = record {
  given_seven = refl;
  fill_copy_memory = refl;
  copy_fill_memory = refl;
  chained_memory = refl;
  fill_copy_bound = refl;
  chained_bound = refl;
  either_bound = refl;
  ring_bound = refl;
  moved_bound = refl;
}

pub rows_are_refused : RefusedRows
rows_are_refused = record {
  no_bit = more.no_bit;
  agents_apart = more.agents_apart;
  no_release = more.no_release;
  one_fence = more.one_fence;
  one_fence_not_shown = more.one_fence_not_shown;
  no_acquire = chain.reason;
  no_acquire_not_shown = chain.not_shown;
  unacquired_refused = chain.refused;
}

pub either_orders : EitherRows
either_orders = record {
  fill_before_copy = choice.fill_before_copy;
  not_the_first = choice.not_the_first;
  not_the_second = choice.not_the_second;
  not_past_a_free_branch = choice.not_past_a_free_branch;
}

pub order_may_miss : MissedRows
order_may_miss = record {
  either_full = back.either_full;
  back_valid = back.valid;
  back_order = back.order;
  not_full = back.not_full;
  held = back.held;
  always = back.always;
  missed = back.missed;
}

pub rows_are_stuck : StuckRows
rows_are_stuck = record {
  itself_stuck = plain.stuck;
  ring_order = rings.order;
  ring_stuck = rings.stuck;
  moved_order = rings.moved_order;
  not_an_order = rings.not_an_order;
}

pub rows_run : RunsOfRows
rows_run = record {
  slot_waits = rings.refused;
  second_first = run.second_first;
  unreleased_read = run.unreleased_read;
  early_fill_read = run.early_fill_read;
  one_byte_given = refl;
  unreleased_fails = run.unreleased_fails;
  early_fill_fails = run.early_fill_fails;
}
