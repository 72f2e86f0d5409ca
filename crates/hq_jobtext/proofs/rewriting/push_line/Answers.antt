use Rattle.hq_jobtext.proofs.RewrittenLines.{line_stays, packet_pushed}
use Rattle.hq_jobtext.proofs.rewriting.push_line.Goals as goal

pub returns-then-not-begins_packet : goal.returns-then-not-begins_packet
returns-then-not-begins_packet c =
    line_stays c.args.heads.now c.args.numbers.now c.args.line.now c.args.new.now.items c.extend_from_slice.new.self.items c.begins_packet.result c.begins_packet.ensures c.if-not-begins_packet.true c.in_ok-extend_from_slice.ensures.items

pub returns : goal.returns
returns c =
    packet_pushed c.args.heads.now c.args.numbers.now c.split_at.result.0.now c.split_at.result.1.now c.args.line.now c.args.new.now.items c.push_packet.new.new.items _ (c.requires.has_number (c.begins_packet.ensures.0 c.if-not-begins_packet.false)) c.split_at.ensures.front c.split_at.ensures.back c.requires.have_heads c.in_ok-push_packet.ensures
