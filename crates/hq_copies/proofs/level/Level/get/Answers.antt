use Rattle.std.proofs.Common.{ap, ap₂, sym, ◌∙◌}
use Rattle.hq_copies.specs.Edges.{layered}
use Rattle.hq_copies.specs.Marks.{byte_of}
use Rattle.hq_copies.proofs.Levels.{got}
use Rattle.hq_copies.proofs.level.Level.get.Goals as goal

pub returns-in-Some : goal.returns-in-Some
returns-in-Some c = got c.self.inside c.args.self.now c.self.invariant c.self.view_is c.args.number ∙ ap (λ t. layered c.self.inside.dirty t (byte_of c.self.inside.lower c.args.number)) (sym c.in-Some.ensures)

pub returns-in_err-value-in-None : goal.returns-in_err-value-in-None
returns-in_err-value-in-None c = rw c.from_residual.ensures
    (got c.self.inside c.args.self.now c.self.invariant c.self.view_is c.args.number ∙ ap₂ (layered c.self.inside.dirty) (sym c.in-None.ensures) (sym c.in_err-value-in-None.ensures))

pub returns-in_ok-value-in-None : goal.returns-in_ok-value-in-None
returns-in_ok-value-in-None c = got c.self.inside c.args.self.now c.self.invariant c.self.view_is c.args.number ∙ ap₂ (layered c.self.inside.dirty) (sym c.in-None.ensures) (sym c.in_ok-value-in-None.ensures)
