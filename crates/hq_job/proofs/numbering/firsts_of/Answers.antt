use Rattle.std.proofs.Common.{◌≡◌, ◌+◌, ◌∷◌, ◌++◌, [], length, length-append, map, ap, sym, arith, slice_index, ◌∙◌}
use Rattle.hq_job.specs.Numbering.{by_number, with_key}
use Rattle.hq_model.specs.Journal.{numbers}
use Rattle.hq_job.proofs.Grouped.{grouped_most, grouped_next, map_numbers_next}
use Rattle.hq_job.proofs.numbering.firsts_of.Goals as goal

pub overflow_add-first : goal.overflow_add-first
overflow_add-first c =
    let q = c.loop-count.count-index in
    let placed = c.args.placed.now in
    let more : length (by_number (q + 1) placed) ≡ length (by_number q placed) + length (with_key (λ p. p.queue) placed q) =
    ap length (grouped_next (λ p. p.queue) q placed) ∙ length-append (by_number q placed) (with_key (λ p. p.queue) placed q) in
    let count : slice_index c.deref-count-items.result.now q ≡ length (with_key (λ p. p.queue) placed q) =
    ap (λ counts. slice_index counts q) c.deref-count-items.ensures.value ∙ c.in_ok-counts_of.ensures.each q (omega (arith, c.loop-count-test.true, ap length c.deref-count-items.ensures.value, c.in_ok-counts_of.ensures.width)) in
    omega (arith, more, count, grouped_most (λ p. p.queue) (q + 1) placed, c.loop-count.invariant.0, c.requires.few)

pub loop-count-preserved : goal.loop-count-preserved
loop-count-preserved c =
    let q = c.loop-count.count-index in
    let placed = c.args.placed.now in
    let more : length (by_number (q + 1) placed) ≡ length (by_number q placed) + length (with_key (λ p. p.queue) placed q) =
    ap length (grouped_next (λ p. p.queue) q placed) ∙ length-append (by_number q placed) (with_key (λ p. p.queue) placed q) in
    let count : slice_index c.deref-count-items.result.now q ≡ length (with_key (λ p. p.queue) placed q) =
    ap (λ counts. slice_index counts q) c.deref-count-items.ensures.value ∙ c.in_ok-counts_of.ensures.each q (omega (arith, c.loop-count-test.true, ap length c.deref-count-items.ensures.value, c.in_ok-counts_of.ensures.width)) in (
      omega (arith, more, count, c.loop-count.invariant.0),
      c.in_ok-push.ensures.items
          ∙ ap (λ ys. ys ++ c.loop-count.first ∷ []) c.loop-count.invariant.1
          ∙ ap (λ v. map (λ k. length (by_number k placed)) (numbers q) ++ v ∷ []) c.loop-count.invariant.0
          ∙ sym (map_numbers_next (λ k. length (by_number k placed)) q),
    )
