use Rattle.std.proofs.Common.{◌+◌, ◌-◌, ◌/◌, arith}
use Rattle.hq_copies.proofs.Covers.{rises}
use Rattle.hq_copies.proofs.runs.place.Goals as goal

pub search-preserved-then-edges-mid : goal.search-preserved-then-edges-mid
search-preserved-then-edges-mid c =
    let i = c.search.invariant in
    let mid = c.search.low + (c.search.high - c.search.low) / 2 in
    record {
      order = omega (arith, c.search-test.true);
      within = i.within;
      below = λ k l. omega (arith, rises c.args.edges.now 0 k mid c.requires (omega arith) (omega (arith, c.search-test.true, i.within)), c.if-edges-mid.true);
      above = i.above;
    }

pub search-preserved : goal.search-preserved
search-preserved c =
    let i = c.search.invariant in
    let mid = c.search.low + (c.search.high - c.search.low) / 2 in
    record {
      order = omega arith;
      within = omega (arith, c.search-test.true, i.within);
      below = i.below;
      above = λ k l h. omega (arith, rises c.args.edges.now 0 mid k c.requires l h, c.if-edges-mid.false);
    }
