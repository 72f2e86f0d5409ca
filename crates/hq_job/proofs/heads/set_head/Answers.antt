use Rattle.std.proofs.Common.{◌≡◌, sym, subst, slice_set}
use Rattle.hq_job.specs.Heads.{packets_with_head}
use Rattle.hq_job.proofs.GivenHeads.{written}
use Rattle.hq_job.proofs.heads.set_head.Goals as goal

pub returns : goal.returns
returns c =
    let x = c.index-packets-packet.result in
    subst (λ y. slice_set c.args.packets.now c.args.packet y ≡ packets_with_head c.args.packets.now c.args.packet c.args.head) (sym c.with_head.ensures)
    (written c.args.packets.now c.args.packet x x c.args.head c.requires c.index-packets-packet.is)
