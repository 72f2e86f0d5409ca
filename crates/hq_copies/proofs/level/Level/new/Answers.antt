use Rattle.std.proofs.Common.{ap₂, ◌∙◌, sym, false}
use Rattle.std.specs.FinMap as finite
use Rattle.std.specs.Ordering.{nat_cmp}
use Rattle.hq_copies.specs.Edges.{layered}
use Rattle.hq_copies.proofs.Levels.{given}
use Rattle.hq_copies.proofs.level.Level.new.Goals as goal

pub returns : goal.returns
returns c = given (record { lower = c.new.result; upper = c.new-2.result; dirty = false }) finite.empty (record { lower_runs = c.new.ensures.runs; upper_runs = c.new-2.ensures.runs })
    (λ n. ap₂ (layered false) (c.new-2.ensures.none n) (c.new.ensures.none n) ∙ sym (finite.get-empty nat_cmp n))
