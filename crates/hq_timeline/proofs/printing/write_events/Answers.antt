use Rattle.std.proofs.Common.{take}
use Rattle.std.specs.Prelude.{map}
use Rattle.hq_timeline.specs.Grammar.{EventFits, event_words}
use Rattle.hq_text.specs.Printed.{lines_text}
use Rattle.hq_timeline.proofs.Puts.{put_and_spilled, event_next, one_fits}
use Rattle.hq_timeline.proofs.printing.write_events.Goals as goal

pub loop-event-preserved : goal.loop-event-preserved
loop-event-preserved g c = record {
  written = put_and_spilled _ (g.W.Write.contents c.loop-event.writer) (g.W.Write.contents c.spill.new.writer) c.loop-event.pen.bytes.items c.put_event.new.self.bytes.items c.spill.new.pen.bytes.items
      (lines_text (map event_words (take c.loop-event.event-index c.args.events.now))) _ _
      c.loop-event.invariant.written c.in_ok-put_event.ensures.put c.in_ok-spill.ensures
      (event_next event_words c.args.events.now c.loop-event.event-index _ c.loop-event-test.true);
  fits = one_fits EventFits c.args.events.now c.loop-event.event-index _ c.loop-event-test.true c.loop-event.invariant.fits c.put_event.ensures.fits;
}
