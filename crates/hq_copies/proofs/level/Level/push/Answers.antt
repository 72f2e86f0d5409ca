use Rattle.std.proofs.Common.{ap₂, sym, ◌∙◌, false}
use Rattle.std.specs.FinMap as finite
use Rattle.hq_copies.specs.Copies.{a_copy}
use Rattle.hq_copies.specs.Edges.{layered}
use Rattle.hq_copies.specs.Marks.{byte_of}
use Rattle.hq_copies.proofs.Overlays.{same_byte}
use Rattle.hq_copies.proofs.Levels.{got, given, inserted}
use Rattle.hq_copies.proofs.level.Level.push.Goals as goal

pub returns-clause-ok : goal.returns-clause-ok
returns-clause-ok c = given (record { lower = c.set.new.self; upper = c.remove.new.self; dirty = c.self.inside.dirty }) (finite.insert c.args.self.now c.args.number (a_copy c.args.byte false)) (record { lower_runs = c.set.ensures.runs; upper_runs = c.remove.ensures.runs })
    (inserted c.args.self.now c.args.number (a_copy c.args.byte false) (λ n. layered c.self.inside.dirty (byte_of c.remove.new.self n) (byte_of c.set.new.self n))
    (ap₂ (layered c.self.inside.dirty) c.remove.ensures.same c.set.ensures.same)
    (λ n d. ap₂ (layered c.self.inside.dirty) (c.remove.ensures.others n d ∙ same_byte c.self.inside.upper c.reserve_run.new.self n c.reserve_run.ensures.same) (c.set.ensures.others n d ∙ same_byte c.self.inside.lower c.reserve.new.self n c.reserve.ensures.same) ∙ sym (got c.self.inside c.args.self.now c.self.invariant c.self.view_is n)))
