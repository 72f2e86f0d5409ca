use Rattle.std.proofs.Common.{length, sym, subst}
use Rattle.hq_job.specs.Plan.{plan}
use Rattle.hq_model.specs.Job.{packet}
use Rattle.hq_machine.proofs.EachEntry.{fetched_whole}
use Rattle.hq_machine.specs.Entries.{FetchedUpTo}
use Rattle.hq_machine.proofs.state.State.read_in_order.Goals as goal

pub returns : goal.returns
returns c =
    let job = plan c.args.job.now in
    subst (FetchedUpTo job c.args.self.now c.args.packet (length (packet job c.args.packet).reads)) (sym c.all.ensures)
    (fetched_whole job c.args.self.now c.args.packet c.in_ok-bytes.bytes.items c.requires.is c.requires.may c.requires.some c.in_ok-bytes.ensures)
