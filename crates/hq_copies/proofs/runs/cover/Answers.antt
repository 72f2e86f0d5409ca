use Rattle.std.proofs.Common.{◌++◌, length, take, drop, arith, ap, ap₂, ◌∙◌}
use Rattle.std.proofs.lemmas.Bool.{cond-true}
use Rattle.std.proofs.lemmas.List.{length-take-le}
use Rattle.hq_copies.specs.Edges.{is_odd, unless}
use Rattle.hq_copies.proofs.Covers.{Placed, covered}
use Rattle.hq_copies.proofs.runs.cover.Goals as goal

pub returns-clause-ok : goal.returns-clause-ok
returns-clause-ok c =
    let edges = c.args.edges.now.items in
    let a = c.place-first.result in
    let b = c.place-last.result in
    let count = ap length c.deref.ensures.value in
    let count-2 = ap length c.deref-2.ensures.value in
    let placed : Placed edges c.args.start c.args.end a b = record {
      first = omega (arith, c.place-first.ensures.within, count);
      low = rw c.deref.ensures.value at c.place-first.ensures.below;
      from = rw c.deref.ensures.value at c.place-first.ensures.above;
      last = omega (arith, c.place-last.ensures.within, count-2);
      within = rw c.deref-2.ensures.value at c.place-last.ensures.below;
      high = rw c.deref-2.ensures.value at c.place-last.ensures.above;
    } in
    covered edges c.args.start c.args.end a b c.extend_from_slice.new.self.items c.requires.rising c.requires.some placed
    (c.extend_from_slice.ensures.items
    ∙ cond-true _ _ _ c.if-is_err.ensures.negation
    ∙ ap₂ (λ xs ys. xs ++ ys)
    (c.add_if_even-2.ensures.edges (take b edges) (length-take-le b edges placed.last)
    ∙ ap (λ t. t ++ unless (is_odd (take b edges)) c.args.end)
    (c.add_if_even.ensures.edges (take a edges) (length-take-le a edges placed.first)
    ∙ ap (λ t. t ++ unless (is_odd (take a edges)) c.args.start) (c.truncate.ensures.items ∙ ap (take a) c.reserve.ensures.items)))
    (c.deref-3.ensures.value ∙ c.in_ok-behind.ensures.items ∙ c.split_at.ensures.back ∙ ap (drop b) c.as_slice.ensures.value))
