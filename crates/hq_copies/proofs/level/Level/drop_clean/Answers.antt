use Rattle.std.proofs.Common.{ap₂, sym, ◌∙◌}
use Rattle.std.specs.FinMap as finite
use Rattle.hq_copies.specs.Edges.{layered}
use Rattle.hq_copies.specs.Marks.{byte_of}
use Rattle.hq_copies.proofs.Overlays.{same_byte}
use Rattle.hq_copies.proofs.Levels.{got, given, removed}
use Rattle.hq_copies.proofs.level.Level.drop_clean.Goals as goal

pub returns-clause-ok : goal.returns-clause-ok
returns-clause-ok c = given (record { lower = c.remove-2.new.self; upper = c.remove.new.self; dirty = c.self.inside.dirty }) (finite.remove c.args.self.now c.args.number) (record { lower_runs = c.remove-2.ensures.runs; upper_runs = c.remove.ensures.runs })
    (removed c.args.self.now c.args.number (λ n. layered c.self.inside.dirty (byte_of c.remove.new.self n) (byte_of c.remove-2.new.self n))
    (ap₂ (layered c.self.inside.dirty) c.remove.ensures.same c.remove-2.ensures.same)
    (λ n d. ap₂ (layered c.self.inside.dirty) (c.remove.ensures.others n d ∙ same_byte c.self.inside.upper c.reserve_run.new.self n c.reserve_run.ensures.same) (c.remove-2.ensures.others n d ∙ same_byte c.self.inside.lower c.reserve_run-2.new.self n c.reserve_run-2.ensures.same) ∙ sym (got c.self.inside c.args.self.now c.self.invariant c.self.view_is n)))
