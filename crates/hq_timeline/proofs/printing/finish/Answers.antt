use Rattle.std.proofs.Common.{List, ℕ, subst}
use Rattle.std.specs.Prelude.{map}
use Rattle.std.specs.Io.KnownBytes.{Appends}
use Rattle.std.proofs.lemmas.Result.{on_ok_weaker}
use Rattle.hq_timeline.specs.Grammar.{head_words, event_words, end_words}
use Rattle.hq_text.specs.Printed.{line_text, lines_text}
use Rattle.hq_timeline.specs.Printed.{text_of}
use Rattle.hq_timeline.proofs.Puts.{all_written, text_is}
use Rattle.hq_timeline.proofs.printing.finish.Goals as goal

pub returns-clause-written : goal.returns-clause-written
returns-clause-written g c =
    let contents = g.W.Write.contents in
    let journal = c.args.journal.now in
    on_ok_weaker c.write_all.result
    (λ out. all_written (contents c.args.writer.now) (contents c.write_events.new.writer) (contents c.write_all.new.self)
    c.args.pen.now.bytes.items c.write_events.new.pen.bytes.items c.put_end.new.self.bytes.items
    (line_text head_words) (lines_text (map event_words c.events.result.now)) (line_text end_words)
    (text_of journal)
    c.requires c.in_ok-write_events.ensures.written c.in_ok-put_end.ensures
    (subst (λ (t : List ℕ). Appends (contents c.write_events.new.writer) (contents c.write_all.new.self) t) c.bytes.ensures out)
    (text_is c.events.result.now journal c.events.ensures))
    c.write_all.ensures.bytes
