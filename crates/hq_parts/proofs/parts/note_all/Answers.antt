use Rattle.std.proofs.Common.{arith, slice_index_or}
use Rattle.std.proofs.lemmas.Option.{slice_get-get_or}
use Rattle.hq_parts.specs.declared.parts.Touch.{Touch}
use Rattle.hq_parts.proofs.Parting.{noted_next, all_noted}
use Rattle.hq_parts.proofs.parts.note_all.Goals as goal

pub loop-packet-preserved : goal.loop-packet-preserved
loop-packet-preserved c =
    let t : Touch = slice_index_or c.args.touches.now c.loop-packet.packet (record { written = 0; touched = 0 }) in
    let there = slice_get-get_or c.args.touches.now c.loop-packet.packet (record { written = 0; touched = 0 }) c.loop-packet-test.true in
    record {
      written_len = omega (arith, c.turn_word.auto.table, c.loop-packet.invariant.written_len);
      touched_len = omega (arith, c.turn_word-in-loop-packet.auto.table, c.loop-packet.invariant.touched_len);
      written = noted_next (λ t. t.written) c.args.touches.now c.loop-packet.packet c.loop-packet.written c.turn_word.new.table t c.loop-packet.invariant.written there c.turn_word.ensures;
      touched = noted_next (λ t. t.touched) c.args.touches.now c.loop-packet.packet c.loop-packet.touched c.turn_word-in-loop-packet.new.table t c.loop-packet.invariant.touched there c.turn_word-in-loop-packet.ensures;
    }

pub returns-clause-written : goal.returns-clause-written
returns-clause-written c = all_noted (λ t. t.written) c.args.touches.now c.loop-packet.packet c.loop-packet.written c.loop-packet.invariant.written_len (omega arith) c.loop-packet.invariant.written

pub returns-clause-touched : goal.returns-clause-touched
returns-clause-touched c = all_noted (λ t. t.touched) c.args.touches.now c.loop-packet.packet c.loop-packet.touched c.loop-packet.invariant.touched_len (omega arith) c.loop-packet.invariant.touched
