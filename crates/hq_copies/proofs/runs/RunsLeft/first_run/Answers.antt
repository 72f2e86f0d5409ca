use Rattle.std.proofs.Common.{◌≡◌, ◌-◌, ◌+◌, ◌<◌, ◌∷◌, length, sym, ap, subst, ◌∙◌, take, drop, arith}
use Rattle.hq_copies.specs.Edges.{has, byte_at, IsRuns}
use Rattle.hq_copies.specs.Overlays.{run_at, Over}
use Rattle.hq_copies.proofs.Leftovers.{first_fits, first_behind, first_over, first_apart}
use Rattle.hq_copies.proofs.runs.RunsLeft.first_run.Goals as goal

edges_are : (c : goal.After-width) → c.args.self.edges.now ≡ c.in_ok-start.start.now ∷ c.in_ok-end.end.now ∷ c.in_ok-end.edges.now
edges_are c = c.in_ok-start.ensures.cases.0 ∙ ap (λ t. c.in_ok-start.start.now ∷ t) c.in_ok-end.ensures.cases.0

pub width-requires : goal.width-requires
width-requires c =
    let e = c.in_ok-start.ensures.cases.0 ∙ ap (λ t. c.in_ok-start.start.now ∷ t) c.in_ok-end.ensures.cases.0 in
    let runs = subst (λ t. IsRuns t c.args.self.bytes.now) e c.requires in
    omega (arith, (first_fits c.in_ok-start.start.now c.in_ok-end.end.now c.in_ok-end.edges.now c.args.self.bytes.now runs).0)

pub split_at-requires : goal.split_at-requires
split_at-requires c =
    let runs = subst (λ t. IsRuns t c.args.self.bytes.now) (edges_are c) c.requires in
    omega (arith, c.width.ensures.exact, (first_fits c.in_ok-start.start.now c.in_ok-end.end.now c.in_ok-end.edges.now c.args.self.bytes.now runs).1)

pub returns : goal.returns
returns c =
    let s = c.in_ok-start.start.now in
    let e = c.in_ok-end.end.now in
    let edges = c.in_ok-end.edges.now in
    let bytes = c.args.self.bytes.now in
    let are = c.in_ok-start.ensures.cases.0 ∙ ap (λ t. s ∷ t) c.in_ok-end.ensures.cases.0 in
    let runs : IsRuns (s ∷ e ∷ edges) bytes = subst (λ t. IsRuns t bytes) are c.requires in
    let front : c.split_at.result.0.now ≡ take (e - s) bytes = c.split_at.ensures.front ∙ ap (λ k. take k bytes) c.width.ensures.exact in
    let back : c.split_at.result.1.now ≡ drop (e - s) bytes = c.split_at.ensures.back ∙ ap (λ k. drop k bytes) c.width.ensures.exact in
    let fits = first_fits s e edges bytes runs in
    record {
      behind = subst (λ b. IsRuns edges b) (sym back) (first_behind s e edges bytes runs);
      over =
          subst (λ f. Over (run_at s f) (byte_at (has edges) c.split_at.result.1.now) (byte_at (has c.args.self.edges.now) bytes)) (sym front)
          (subst (λ b. Over (run_at s (take (e - s) bytes)) (byte_at (has edges) b) (byte_at (has c.args.self.edges.now) bytes)) (sym back)
          (subst (λ t. Over (run_at s (take (e - s) bytes)) (byte_at (has edges) (drop (e - s) bytes)) (byte_at (has t) bytes)) (sym are) (first_over s e edges bytes runs)));
      apart = λ n l. ap (λ b. byte_at (has edges) b n) back ∙ first_apart s e edges bytes n runs (subst (λ f. n < s + length f) front l);
      fits = omega (arith, c.width.ensures.exact, c.width.ensures.fits, c.split_at.ensures.front_len, fits.0);
      shorter = omega (arith, c.in_ok-start.ensures.cases.1, c.in_ok-end.ensures.cases.1);
    }
