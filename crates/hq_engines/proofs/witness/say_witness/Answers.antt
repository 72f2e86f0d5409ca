use Rattle.std.proofs.Common.{◌∙◌, ap, codes, refl, subst, Err}
use Rattle.std.specs.Io.KnownBytes.{Appends}
use Rattle.hq_timeline.specs.Printed.{text_of}
use Rattle.hq_status.specs.Reports.{with_feed}
use Rattle.hq_engines.specs.Recording.{contents_in}
use Rattle.hq_engines.proofs.Witnesses.{witness_reported, memory_reported, failed_reported}
use Rattle.hq_engines.proofs.witness.say_witness.Goals as goal

pub returns-in-Ok : goal.returns-in-Ok
returns-in-Ok g c =
    witness_reported c.args.job.now c.args.witness.now (record { good = contents_in g.T.Write.contents c.args.good.now; bad = contents_in g.T.Write.contents c.args.bad.now; answer = g.W.Write.contents c.args.writer.now }) (record { good = contents_in g.T.Write.contents c.write_timeline.new.timeline; bad = contents_in g.T.Write.contents c.say_rest.new.bad; answer = g.W.Write.contents c.say_rest.new.writer }) c.say_rest.result c.requires
    (subst (λ j. Appends (contents_in g.T.Write.contents c.args.good.now) (contents_in g.T.Write.contents c.write_timeline.new.timeline) (text_of j)) c.good.ensures c.in-Ok.ensures.written) c.say_rest.ensures

pub returns-in-Err-Memory : goal.returns-in-Err-Memory
returns-in-Err-Memory g c =
    memory_reported c.args.job.now (record { good = contents_in g.T.Write.contents c.args.good.now; bad = contents_in g.T.Write.contents c.args.bad.now; answer = g.W.Write.contents c.args.writer.now }) (record { good = contents_in g.T.Write.contents c.write_timeline.new.timeline; bad = contents_in g.T.Write.contents c.args.bad.now; answer = g.W.Write.contents c.say_memory.new.writer }) c.say_memory.result (ap (contents_in g.T.Write.contents) (c.write_timeline.ensures.unwritten (c.in-Err-Memory.is ∙ ap Err c.in-Err-Memory.field-0-is))) refl c.say_memory.ensures

pub returns-in-Err-Writer : goal.returns-in-Err-Writer
returns-in-Err-Writer g c = failed_reported c.args.job.now (record { good = contents_in g.T.Write.contents c.args.good.now; bad = contents_in g.T.Write.contents c.args.bad.now; answer = g.W.Write.contents c.args.writer.now }) (record { good = contents_in g.T.Write.contents c.write_timeline.new.timeline; bad = contents_in g.T.Write.contents c.args.bad.now; answer = g.W.Write.contents c.say_file.new.writer }) (with_feed (codes "file fault")) c.say_file.result c.say_file.ensures
