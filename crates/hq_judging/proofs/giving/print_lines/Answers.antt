use Rattle.std.proofs.Common.{◌≡◌, ◌+◌, Some, arith, ap, sym, ◌∙◌}
use Rattle.hq_text.specs.Printed.{line_text}
use Rattle.hq_certtext.specs.Grammar.{line_words}
use Rattle.hq_cert.specs.View.{line_of}
use Rattle.hq_judging.specs.Giving.{IsLinesText}
use Rattle.hq_judging.proofs.Audited.{lines_none, lines_more, such_none, such_both, this_one}
use Rattle.hq_judging.proofs.giving.print_lines.Goals as goal

pub loop-k-init : goal.loop-k-init
loop-k-init g c = record {
  ready = c.requires.ready;
  prints = such_none (IsLinesText c.args.audited.now c.args.from c.args.from) _ _ (lines_none c.args.audited.now c.args.from);
}

pub loop-k-preserved : goal.loop-k-preserved
loop-k-preserved g c =
    let a = c.args.audited.now in
    let k = c.loop-k.k in
    let from = c.args.from in
    let line = line_of c.line-in-loop-k.result.now in
    let at = c.line.ensures ∙ ap (λ l. Some l) (sym c.line-in-loop-k.ensures) in
    let text = line_text (line_words k line) in
    record {
      ready = c.in_ok-line.ensures.ready;
      prints = such_both (IsLinesText a from k) (λ s. s ≡ text) (IsLinesText a from (k + 1)) (λ t s h e. lines_more a from k line t s (omega arith) at h e) c.loop-k.invariant.prints (this_one text c.in_ok-line.ensures.prints);
    }
