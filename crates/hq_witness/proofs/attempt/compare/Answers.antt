use Rattle.hq_job.specs.Plan.{plan}
use Rattle.hq_witness.proofs.Runs.{told_place, whole_run}
use Rattle.hq_witness.proofs.attempt.compare.Goals as goal

pub returns-in-Some-clause-found : goal.returns-in-Some-clause-found
returns-in-Some-clause-found c =
    let job = plan c.args.job.now in
    let d = c.in-Some.difference in
    let told = c.in-Some.ensures.apart in
    record {
      place = told_place job c.args.good d.place d.good c.requires.good told.in_good;
      good = whole_run job c.args.good d.place d.good c.into_journal.result c.requires.good c.in-Some.ensures.good told.in_good c.into_journal.ensures;
      bad = whole_run job c.args.bad d.place d.bad c.into_journal-in-Some.result c.requires.bad c.in-Some.ensures.bad told.in_bad c.into_journal-in-Some.ensures;
      differ = told.differ;
    }
