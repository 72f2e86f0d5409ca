use Rattle.std.proofs.Common.{◌≡◌, ◌∙◌, ap, refl, slice_get, get_or, Some}
use Rattle.std.proofs.lemmas.Option.{slice_get_read}
use Rattle.hq_hall.proofs.Packets.{work_is, foot_is, planned_is, packet_read, entries_low}
use Rattle.hq_hall.proofs.hall.placed.Goals as goal

pub returns : goal.returns
returns c =
    let v = c.args.job.now in
    let x = c.index-packets-packet.result in
    let there : slice_get v.packets c.args.packet ≡ Some x = slice_get_read v.packets _ c.args.packet x refl c.requires (c.index-packets-packet.is ∙ ap (λ ps. get_or ps c.args.packet x) c.packets.ensures) in
    let read = packet_read v c.args.packet x c.valid.ensures.packets there in
    record {
      there = there;
      read = read;
      work = work_is v.packets c.args.packet x there;
      foot = foot_is v.packets c.args.packet x there;
      planned = planned_is v c.args.packet x there;
      entries = entries_low v x read c.valid.ensures.limits;
      ranges = (c.both-ranges.result.0, c.both-ranges.result.1, c.both-ranges.ensures);
      numbers = (c.both-numbers.result.0, c.both-numbers.result.1, c.both-numbers.ensures);
    }
