use Rattle.std.proofs.Common.{take}
use Rattle.std.specs.Prelude.{map}
use Rattle.std.specs.List.{AllByRecursion}
use Rattle.std.specs.Io.KnownBytes.{Appends, append_known}
use Rattle.hq_timeline.specs.Grammar.{EventFits, event_words}
use Rattle.hq_text.specs.Printed.{lines_text}
use Rattle.hq_timeline.proofs.printing.write_events.Given as goal

abbrev pub invariant-loop-event : goal.invariant-loop-event
invariant-loop-event g l = record {
  written : Appends (append_known (g.W.Write.contents l.fn.writer) l.fn.pen.bytes.items) (append_known (g.W.Write.contents l.writer) l.pen.bytes.items) (lines_text (map event_words (take l.event-index l.events)));
  fits : AllByRecursion EventFits (take l.event-index l.events);
}
