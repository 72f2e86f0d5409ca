use Rattle.std.proofs.Common.{[], false, replicate, ap, ◌∙◌}
use Rattle.hq_job.specs.Plan.{plan}
use Rattle.hq_events.specs.Rows.{no_stores}
use Rattle.hq_machine.proofs.Starts.{started_is, started_state}
use Rattle.hq_machine.proofs.state.State.start.Goals as goal

pub returns-clause-is : goal.returns-clause-is
returns-clause-is c = started_is (plan c.args.job.now) _ (record {
  phases = c.in_ok-first_phases.ensures;
  observed = c.in_ok-nothing_observed.ensures ∙ ap (λ n. replicate n (replicate 5 false)) c.packet_count-count.ensures;
  reads = c.in_ok-no_reads.ensures ∙ ap (λ n. replicate n []) c.packet_count-count.ensures;
  stores = c.in_ok-nothing_stored.ensures ∙ ap (λ n. replicate n no_stores) c.packet_count-count.ensures;
  signals = c.in_ok-signal_values.ensures;
  opens = c.in_ok-first_copies.ensures.ok;
})

pub returns-clause-start : goal.returns-clause-start
returns-clause-start c = started_state (plan c.args.job.now) _ (record {
  phases = c.in_ok-first_phases.ensures;
  observed = c.in_ok-nothing_observed.ensures ∙ ap (λ n. replicate n (replicate 5 false)) c.packet_count-count.ensures;
  reads = c.in_ok-no_reads.ensures ∙ ap (λ n. replicate n []) c.packet_count-count.ensures;
  stores = c.in_ok-nothing_stored.ensures ∙ ap (λ n. replicate n no_stores) c.packet_count-count.ensures;
  signals = c.in_ok-signal_values.ensures;
  opens = c.in_ok-first_copies.ensures.ok;
})
