use Rattle.std.proofs.Common.{◌≡◌, ◌+◌, arith, ap, ◌∙◌, ◌++◌, take}
use Rattle.std.specs.Prelude.{map}
use Rattle.hq_certtext.specs.Grammar.{line_words, lines_words}
use Rattle.hq_text.specs.Printed.{line_text, lines_text}
use Rattle.hq_cert.specs.View.{line_of}
use Rattle.hq_certtext.proofs.Puts.{then_gains, as_text, line_next}
use Rattle.hq_certtext.proofs.printing.write_lines.Goals as goal

pub loop-k-preserved : goal.loop-k-preserved
loop-k-preserved g c = let number : c.loop-k.k ≡ 0 + c.loop-k.k = omega arith in record {
  written = as_text (then_gains c.loop-k.invariant.written c.in_ok-at.ensures.written)
      (ap (λ n. lines_text (lines_words 0 (map line_of (take c.loop-k.k c.args.lines.now))) ++ line_text (line_words n (line_of c.index-lines-k.result))) number
      ∙ ap (λ l. lines_text (lines_words 0 (map line_of (take c.loop-k.k c.args.lines.now))) ++ line_text (line_words (0 + c.loop-k.k) (line_of l))) c.index-lines-k.is
      ∙ line_next line_of 0 c.args.lines.now c.loop-k.k c.index-lines-k.result c.loop-k-test.true);
  within = c.in_ok-at.ensures.within;
}
