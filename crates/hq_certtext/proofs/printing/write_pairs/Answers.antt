use Rattle.std.proofs.Common.{ap, ◌∙◌, ◌++◌, take}
use Rattle.std.specs.Prelude.{map}
use Rattle.hq_certtext.specs.Grammar.{pair_words}
use Rattle.hq_text.specs.Printed.{line_text, lines_text}
use Rattle.hq_cert.specs.View.{pair_of}
use Rattle.hq_certtext.proofs.Puts.{then_gains, as_text, pair_next}
use Rattle.hq_certtext.proofs.printing.write_pairs.Goals as goal

pub loop-pair-preserved : goal.loop-pair-preserved
loop-pair-preserved g c = record {
  written = as_text (then_gains c.loop-pair.invariant.written c.in_ok-at.ensures.written) (ap (λ p. lines_text (map pair_words (map pair_of (take c.loop-pair.pair-index c.args.pairs.now))) ++ line_text (pair_words (pair_of p))) c.pair-item.is ∙ pair_next pair_words pair_of c.args.pairs.now c.loop-pair.pair-index c.pair-item.result c.loop-pair-test.true);
  within = c.in_ok-at.ensures.within;
}
