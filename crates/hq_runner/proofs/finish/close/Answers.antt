use Rattle.hq_runner.proofs.Endings.{as_one_by_one, whole}
use Rattle.hq_runner.proofs.finish.close.Goals as goal

pub returns-in-Ok-clause-whole : goal.returns-in-Ok-clause-whole
returns-in-Ok-clause-whole g c = rw c.into_journal-journal.ensures
    (whole c.args.accepted.now.job c.args.hall c.rested.new.hall _ c.requires.same c.in-Ok.ensures.rests c.run_so_far.ensures.run c.run_so_far-in-Ok.ensures.run
    c.requires.complete c.requires.programs c.in-Ok.ensures.memory)

pub returns-in-Ok-clause-one_by_one : goal.returns-in-Ok-clause-one_by_one
returns-in-Ok-clause-one_by_one g c =
    as_one_by_one c.args.accepted.now.job c.args.hall c.rested.new.hall _ c.ordered.ensures.valid c.ordered.ensures.ordered c.requires.same c.in-Ok.ensures.rests
    c.run_so_far.ensures.run c.requires.complete c.in-Ok.ensures.memory
