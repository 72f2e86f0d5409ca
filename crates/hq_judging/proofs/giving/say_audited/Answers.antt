use Rattle.std.proofs.Common.{◌≡◌, ap, subst, rules, codes}
use Rattle.hq_job.specs.Plan.{plan}
use Rattle.hq_status.specs.Reports.{Said, with_feed}
use Rattle.hq_status.specs.declared.status.Status.TheVariants.{Memory}
use Rattle.hq_judging.proofs.Audits.{memory_reported, written_reported, file_reported}
use Rattle.hq_judging.proofs.giving.say_audited.Goals as goal

pub returns-in-Ok : goal.returns-in-Ok
returns-in-Ok g c = written_reported (plan c.args.job.now) _ _ c.in-Ok.ensures.written

pub returns-in-Err-Memory : goal.returns-in-Err-Memory
returns-in-Err-Memory g c =
    let contents = g.W.Write.contents in
    let same : c.print_audited.new.writer ≡ c.args.writer.now = search rules in
    let said = c.say_memory in
    memory_reported (plan c.args.job.now) _ _ said.result (subst (λ w. Said w (contents said.new.writer) (with_feed (codes "out of memory")) Memory said.result) (ap contents same) said.ensures)

pub returns : goal.returns
returns g c = file_reported (plan c.args.job.now) _ _
