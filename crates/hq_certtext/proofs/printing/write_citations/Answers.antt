use Rattle.std.proofs.Common.{arith}
use Rattle.hq_certtext.specs.Grammar.{citation_word}
use Rattle.hq_cert.specs.View.{cited}
use Rattle.hq_certtext.proofs.Puts.{then_gains, roomed, as_text, put_gains, citation_next}
use Rattle.hq_certtext.proofs.printing.write_citations.Goals as goal

pub loop-citation-preserved : goal.loop-citation-preserved
loop-citation-preserved g c =
    let made = roomed c.loop-citation.invariant.written c.in_ok-at.ensures.written in
    record {
      written = as_text (then_gains made (put_gains (g.W.Write.contents c.make_room.new.writer) c.put_citation-at.ensures.put)) (citation_next citation_word cited c.args.citations.now c.loop-citation.citation-index _ c.loop-citation-test.true);
      within = omega (arith, c.in_ok-at.ensures.room);
    }
