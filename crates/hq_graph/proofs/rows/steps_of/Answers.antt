use Rattle.std.proofs.Common.{◌+◌, ◌∷◌, [], ◌↔◌, ◌≤◌, IsTrue, ◌∙◌, ap, length, length-append}
use Rattle.hq_bits.specs.declared.TheConstants.{WORDS}
use Rattle.hq_bits.specs.Bits.{has}
use Rattle.hq_rows.proofs.Pushed.{pushed}
use Rattle.hq_graph.specs.Order.{IsStep}
use Rattle.hq_graph.proofs.rows.steps_of.Goals as goal

pub loop-r-preserved : goal.loop-r-preserved
loop-r-preserved c =
    let e = c.in_ok-push.ensures.items in
    let row = c.in_ok-step_row.field-0 in
    let l = c.loop-r in
    record {
      height = ap length e ∙ length-append l.rows.items (row ∷ []) ∙ ap (λ n. n + 1) l.invariant.height;
      width = pushed (λ r words. length words ≤ WORDS) l.rows.items row c.push.new.self.items l.r l.invariant.height e l.invariant.width c.in_ok-step_row.ensures.width;
      exact = λ p. pushed (λ r words. IsTrue (has words p) ↔ IsStep c.args.before.now p r) l.rows.items row c.push.new.self.items l.r l.invariant.height e (l.invariant.exact p) (c.in_ok-step_row.ensures.exact p);
    }
