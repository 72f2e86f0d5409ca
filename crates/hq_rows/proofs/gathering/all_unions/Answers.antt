use Rattle.std.proofs.Common.{◌≡◌, ◌↔◌, ◌+◌, ◌/◌, ◌%◌, ◌∷◌, [], ◌∙◌, ap, length, length-append, IsTrue, arith}
use Rattle.hq_bits.specs.Bits.{has}
use Rattle.hq_bits.specs.declared.TheConstants.{WORDS}
use Rattle.hq_rows.specs.Uniting.{OfChoice}
use Rattle.hq_rows.proofs.Pushed.{pushed_item}
use Rattle.hq_rows.proofs.Gathered.{unions_done}
use Rattle.hq_rows.proofs.gathering.all_unions.Goals as goal

pub loop-entry-preserved : goal.loop-entry-preserved
loop-entry-preserved c =
    let e = c.in_ok-push.ensures.items in
    let l = c.loop-entry in
    record {
      count = l.invariant.count;
      len = ap length e ∙ length-append l.unions.items (c.union_of.result ∷ []) ∙ ap (λ n. n + 1) l.invariant.len;
      width = pushed_item (λ k words. length words ≡ WORDS) l.unions.items c.union_of.result [] c.push.new.self.items l.entry l.invariant.len e l.invariant.width c.union_of.ensures.len;
      exact = λ k p. pushed_item (λ k words. IsTrue (has words p) ↔ OfChoice c.args.rows.now (k / 16) (k % 16) p) l.unions.items c.union_of.result [] c.push.new.self.items l.entry l.invariant.len e (λ j. l.invariant.exact j p) (c.union_of.ensures.exact p) k;
    }

pub returns : goal.returns
returns c =
    let l = c.loop-entry in
    unions_done c.args.rows.now l.unions.items l.entry (omega (arith, l.invariant.count, c.loop-entry-test.false, l.auto.entry-end)) l.invariant.len l.invariant.width l.invariant.exact
