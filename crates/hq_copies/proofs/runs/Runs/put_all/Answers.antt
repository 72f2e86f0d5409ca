use Rattle.std.proofs.Common.{sym, ap, ◌∙◌}
use Rattle.hq_copies.specs.Marks.{byte_of}
use Rattle.hq_copies.specs.Leftovers.{left_of}
use Rattle.hq_copies.specs.Overlays.{run_at, or_lower}
use Rattle.hq_copies.proofs.Overlays.{over_behind, run_below}
use Rattle.hq_copies.proofs.runs.Runs.put_all.Goals as goal

pub runs-init : goal.runs-init
runs-init c = record {
  runs = c.requires.runs;
  left = c.all-left.ensures.are;
  over = λ n. ap (λ t. or_lower (t n) (byte_of c.args.self.now n)) c.all-left.ensures.bytes;
}

pub runs-preserved : goal.runs-preserved
runs-preserved c = record {
  runs = c.put.ensures.runs;
  left = c.in-Some.ensures.behind;
  over = λ n.
      ap (or_lower (left_of c.in-Some.run'.behind n)) (c.in_ok-put.ensures.ok n)
      ∙ over_behind (run_at c.in-Some.run'.start c.in-Some.run'.bytes.now n) (left_of c.in-Some.run'.behind n) (byte_of c.runs.self n) (λ byte e. c.in-Some.ensures.apart n (run_below c.in-Some.run'.start c.in-Some.run'.bytes.now n byte e))
      ∙ ap (λ t. or_lower t (byte_of c.runs.self n)) (sym (c.in-Some.ensures.over n))
      ∙ c.runs.invariant.over n;
}
