use Rattle.std.proofs.Common.{sym, ◌∙◌}
use Rattle.std.proofs.lemmas.Bool.{true≢false}
use Rattle.hq_job.specs.Plan.{plan}
use Rattle.hq_model.specs.Journal.Coarse.{Fetch}
use Rattle.hq_machine.proofs.EachEntry.{fetch_needs, fetch_possible, no_memory}
use Rattle.hq_machine.proofs.state.State.fetch_entries.Goals as goal

pub returns-then-not-may_fetch-clause-fault : goal.returns-then-not-may_fetch-clause-fault
returns-then-not-may_fetch-clause-fault c = λ possible. true≢false (sym (c.may_fetch.ensures.1 (fetch_needs (plan c.args.job.now) c.args.self.now c.args.packet possible)) ∙ c.if-not-may_fetch.true)

pub returns-in_err-row-clause-fault : goal.returns-in_err-row-clause-fault
returns-in_err-row-clause-fault c =
    let job = plan c.args.job.now in
    no_memory job c.args.self.now (Fetch c.args.packet) c.from_residual.result (fetch_possible job c.args.self.now c.args.packet c.requires.is c.requires.packet (c.may_fetch.ensures.0 c.if-not-may_fetch.false) c.requires.some) c.from_residual.ensures.1
