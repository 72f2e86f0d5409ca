use Rattle.std.proofs.Common.{rules, ◌≡◌, All, IsTrue}
use Rattle.hq_job.specs.Plan.{plan}
use Rattle.hq_runner.specs.Journals.{host_events, is_asked}
use Rattle.hq_runner.specs.Outcomes.{AreReceipts, IsFirstWrong}
use Rattle.hq_runner.proofs.Endings.{none_wrong, programs}
use Rattle.hq_runner.proofs.finish.check.Goals as goal

pub returns-in-None-clause-programs : goal.returns-in-None-clause-programs
returns-in-None-clause-programs g c =
    let journal : c.events-journal.result.now ≡ c.args.hall.now.events = search rules in
    let asked : All (λ e. IsTrue (is_asked e)) c.args.hall.now.events = search rules in
    let receipts : AreReceipts (plan c.args.job.now) c.args.hall.now.events c.args.all.now = search rules in
    let host : host_events c.args.hall.now.events ≡ c.args.host.now.events.items = search rules in
    programs (plan c.args.job.now) c.args.hall.now.events c.args.all.now c.args.host.now c.requires.lists c.requires.host c.requires.none c.requires.none_of_host receipts host asked

pub returns-in-Some-clause-ok : goal.returns-in-Some-clause-ok
returns-in-Some-clause-ok g c =
    let wrong : IsFirstWrong (plan c.args.job.now) c.args.hall.now.events c.args.host.now.events.items c.args.all.now c.in-Some.queue = search rules in (
      λ t. cc,
      λ agrees. absurd (none_wrong (plan c.args.job.now) c.args.hall.now.events c.args.host.now.events.items c.args.all.now c.in-Some.queue agrees.receipts agrees.of_host wrong),
    )
