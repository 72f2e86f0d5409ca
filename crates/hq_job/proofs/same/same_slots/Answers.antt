use Rattle.std.proofs.lemmas.Slice.Eq.{slice_eq-Decides}
use Rattle.hq_job.proofs.Options.{optional_decides}
use Rattle.hq_job.proofs.same.same_slots.Goals as goal

pub returns : goal.returns
returns c = slice_eq-Decides optional_decides c.args.first.now c.args.second.now c.eq.result c.eq.ensures
