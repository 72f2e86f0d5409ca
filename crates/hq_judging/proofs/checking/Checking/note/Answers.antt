use Rattle.std.proofs.Common.{◌≡◌, ◌+◌, ◌∙◌, ◌∷◌, [], map, drop, refl, sym, ap, subst, arith}
use Rattle.std.proofs.lemmas.List.{drop_all}
use Rattle.hq_job.specs.Plan.{plan}
use Rattle.hq_certcheck.specs.Listed.{BadLineOf}
use Rattle.hq_certcheck.proofs.Seeing.{seen_left}
use Rattle.hq_judging.specs.Checking.{AreHeld, HasCheckedBut, block_of}
use Rattle.hq_judging.specs.Chunks.{AreJudged}
use Rattle.hq_judging.specs.declared.chunk.Chunk.{Chunk}
use Rattle.hq_judging.proofs.InChunks.{judged_next, none_judged}
use Rattle.hq_judging.proofs.checking.Checking.note.Goals as goal

pub loop-chunk-init : goal.loop-chunk-init
loop-chunk-init c = record {
  job = refl;
  progress = refl;
  lines = refl;
  noted = λ from olds lines h judged. record { checked = h; judged = judged h.front h.seen.concluded h.held };
}

pub loop-chunk-preserved : goal.loop-chunk-preserved
loop-chunk-preserved c =
    let inv = c.loop-chunk.invariant in
    let i = c.loop-chunk.chunk-index in
    let now = c.loop-chunk.self in
    let chunks = c.args.chunks.now in
    let chunk = c.chunk-item.result in
    let job = plan now.job in
    record {
      job = inv.job;
      progress = inv.progress;
      lines = c.note.ensures.lines ∙ inv.lines;
      noted = λ from olds lines h judged.
          let so = inv.noted from olds lines h judged in
          let next = judged_next job so.checked.front olds chunks i chunk c.loop-chunk-test.true so.judged in
          let front = so.checked.front in
          let gone = so.checked.gone in
          let seen = seen_left job front gone (map block_of (drop i olds)) (block_of next.old ∷ map block_of (drop (i + 1) olds)) now.seen (ap (map block_of) next.cut) so.checked.seen in
          record {
            checked = record {
              same = so.checked.same;
              front = front;
              gone = gone;
              taken = so.checked.taken;
              seen = c.note.ensures.noted job front gone (block_of next.old) [] (map block_of (drop (i + 1) olds)) seen
                  (subst (λ (d : Chunk). BadLineOf job front (block_of next.old) d.bad_line) (sym c.chunk-item.is) next.bad);
              held = (subst (AreHeld front) next.cut so.checked.held).1;
              no_lines = so.checked.no_lines;
              no_pairs = so.checked.no_pairs;
            };
            judged = next.rest;
          };
    }

pub returns-clause-noted : goal.returns-clause-noted
returns-clause-noted c from olds lines h judged =
    let i = c.loop-chunk.chunk-index in
    let chunks = c.args.chunks.now in
    let so = c.loop-chunk.invariant.noted from olds lines h judged in
    let none : drop i chunks ≡ [] = drop_all i chunks (omega (arith, c.loop-chunk-test.false)) in
    let left : drop i olds ≡ [] = none_judged (plan c.loop-chunk.self.job) so.checked.front (drop i olds) (subst (AreJudged (plan c.loop-chunk.self.job) so.checked.front (drop i olds)) none so.judged) in
    subst (λ cs. HasCheckedBut from cs lines c.loop-chunk.self) left so.checked
