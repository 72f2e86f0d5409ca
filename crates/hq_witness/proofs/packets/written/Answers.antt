use Rattle.std.proofs.Common.{ap}
use Rattle.hq_witness.proofs.Bytes.{packet_at, written_are}
use Rattle.hq_witness.proofs.packets.written.Goals as goal

pub returns-in-Some : goal.returns-in-Some
returns-in-Some c =
    let v = c.args.job.now in
    let found = c.in-Some.ensures.lookup in
    let is = packet_at v c.packets.result.now c.args.packet c.in-Some.placed.now c.packets.ensures found.0 found.1 in
    written_are v _ c.in-Some.placed.now.bytes.write c.numbers.result.start c.numbers.result.end c.valid.ensures.limits (c.valid.ensures.valid.writes c.args.packet) (ap (λ k. k.writes) is) c.numbers.ensures.few c.numbers.ensures.are
