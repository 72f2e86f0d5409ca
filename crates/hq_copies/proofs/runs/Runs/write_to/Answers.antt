use Rattle.std.proofs.Common.{◌+◌, ap, sym, ◌∙◌, get_or, arith}
use Rattle.hq_copies.specs.Leftovers.{left_of}
use Rattle.hq_copies.specs.Overlays.{run_at, byte_over}
use Rattle.hq_copies.proofs.Overlays.{run_below}
use Rattle.hq_copies.proofs.Levels.{run_writes}
use Rattle.hq_copies.proofs.runs.Runs.write_to.Goals as goal

pub runs-preserved : goal.runs-preserved
runs-preserved c = record {
  left = c.in-Some.ensures.behind;
  over = λ i l.
      let n = c.args.from + i in
      ap (byte_over (left_of c.in-Some.run'.behind n)) (c.write_run.ensures i (omega arith))
      ∙ run_writes (run_at c.in-Some.run'.start c.in-Some.run'.bytes.now n) (left_of c.in-Some.run'.behind n) (get_or c.runs.bytes i 0) (λ byte e. c.in-Some.ensures.apart n (run_below c.in-Some.run'.start c.in-Some.run'.bytes.now n byte e))
      ∙ ap (λ t. byte_over t (get_or c.runs.bytes i 0)) (sym (c.in-Some.ensures.over n))
      ∙ c.runs.invariant.over i l;
}

pub returns : goal.returns
returns c i l =
    let n = c.args.from + i in
    ap (λ t. byte_over t (get_or c.runs.bytes i 0)) (sym (c.in_default.ensures n))
    ∙ c.runs.invariant.over i l
    ∙ ap (λ t. byte_over (t n) (get_or c.args.bytes.now i 0)) c.all-left.ensures.bytes
