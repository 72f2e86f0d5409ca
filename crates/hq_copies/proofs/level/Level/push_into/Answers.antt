use Rattle.std.proofs.Common.{ap, sym, ◌∙◌}
use Rattle.std.specs.FinMap as finite
use Rattle.hq_copies.specs.Copies.{taken}
use Rattle.hq_copies.specs.Edges.{layered}
use Rattle.hq_copies.specs.Marks.{byte_of}
use Rattle.hq_copies.specs.Leftovers.{left_of}
use Rattle.hq_copies.specs.Overlays.{run_at, dirty_over}
use Rattle.hq_copies.proofs.Overlays.{run_below}
use Rattle.hq_copies.proofs.Levels.{got, feeds, feeds_none, run_feeds}
use Rattle.hq_copies.proofs.level.Level.push_into.Goals as goal

pub returns-then-not-self : goal.returns-then-not-self
returns-then-not-self c n =
    let lower = byte_of c.self.inside.lower n in
    let upper = byte_of c.self.inside.upper n in
    feeds_none upper lower (finite.get c.args.below.now n)
    ∙ ap (λ t. taken t (finite.get c.args.below.now n)) (ap (λ d. layered d upper lower) (sym c.if-not-self.true) ∙ sym (got c.self.inside c.args.self.now c.self.invariant c.self.view_is n))

pub runs-preserved : goal.runs-preserved
runs-preserved c = record {
  left = c.in-Some.ensures.behind;
  over = λ n.
      ap (dirty_over (left_of c.in-Some.run'.behind n)) (c.in_ok-set_run.ensures.ok n)
      ∙ run_feeds (run_at c.in-Some.run'.start c.in-Some.run'.bytes.now n) (left_of c.in-Some.run'.behind n) (finite.get c.runs.below n) (λ byte e. c.in-Some.ensures.apart n (run_below c.in-Some.run'.start c.in-Some.run'.bytes.now n byte e))
      ∙ ap (λ t. dirty_over t (finite.get c.runs.below n)) (sym (c.in-Some.ensures.over n))
      ∙ c.runs.invariant.over n;
}

pub returns : goal.returns
returns c n =
    let lower = byte_of c.self.inside.lower n in
    let upper = byte_of c.self.inside.upper n in
    ap (λ t. dirty_over t (finite.get c.runs.below n)) (sym (c.in_default.ensures n))
    ∙ c.runs.invariant.over n
    ∙ ap (λ t. dirty_over (t n) (finite.get c.args.below.now n)) c.all-left.ensures.bytes
    ∙ feeds upper lower (finite.get c.args.below.now n)
    ∙ ap (λ t. taken t (finite.get c.args.below.now n)) (ap (λ d. layered d upper lower) (sym c.if-not-self.false) ∙ sym (got c.self.inside c.args.self.now c.self.invariant c.self.view_is n))
