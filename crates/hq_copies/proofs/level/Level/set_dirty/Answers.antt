use Rattle.std.proofs.Common.{ap, sym, ◌∙◌, true}
use Rattle.std.specs.FinMap as finite
use Rattle.hq_copies.specs.Copies.{a_copy}
use Rattle.hq_copies.specs.Edges.{layered}
use Rattle.hq_copies.specs.Marks.{byte_of}
use Rattle.hq_copies.proofs.Overlays.{same_byte, same_are}
use Rattle.hq_copies.proofs.Levels.{got, given, inserted, on_err}
use Rattle.hq_copies.proofs.level.Level.set_dirty.Goals as goal

pub returns-in_err-settle-clause-err : goal.returns-in_err-settle-clause-err
returns-in_err-settle-clause-err c = on_err c.from_residual.result _ (given (record { lower = c.settle.new.lower; upper = c.settle.new.upper; dirty = c.self.inside.dirty }) c.args.self.now (record { lower_runs = c.settle.ensures.lower; upper_runs = c.settle.ensures.upper })
    (λ n. c.in_err-settle.ensures.err n ∙ sym (got c.self.inside c.args.self.now c.self.invariant c.self.view_is n)))

pub returns-in_err-reserve-clause-err : goal.returns-in_err-reserve-clause-err
returns-in_err-reserve-clause-err c = on_err c.from_residual-in_err-reserve.result _ (given (record { lower = c.settle.new.lower; upper = c.reserve.new.self; dirty = true }) c.args.self.now (record { lower_runs = c.settle.ensures.lower; upper_runs = same_are c.settle.new.upper c.reserve.new.self c.reserve.ensures.same c.settle.ensures.upper })
    (λ n. ap (λ t. layered true t (byte_of c.settle.new.lower n)) (same_byte c.settle.new.upper c.reserve.new.self n c.reserve.ensures.same) ∙ c.in_ok-settle.ensures.ok n ∙ sym (got c.self.inside c.args.self.now c.self.invariant c.self.view_is n)))

pub returns-clause-ok : goal.returns-clause-ok
returns-clause-ok c = given (record { lower = c.settle.new.lower; upper = c.set.new.self; dirty = true }) (finite.insert c.args.self.now c.args.number (a_copy c.args.byte true)) (record { lower_runs = c.settle.ensures.lower; upper_runs = c.set.ensures.runs })
    (inserted c.args.self.now c.args.number (a_copy c.args.byte true) (λ n. layered true (byte_of c.set.new.self n) (byte_of c.settle.new.lower n))
    (ap (λ t. layered true t (byte_of c.settle.new.lower c.args.number)) c.set.ensures.same)
    (λ n d. ap (λ t. layered true t (byte_of c.settle.new.lower n)) (c.set.ensures.others n d ∙ same_byte c.settle.new.upper c.reserve.new.self n c.reserve.ensures.same) ∙ c.in_ok-settle.ensures.ok n ∙ sym (got c.self.inside c.args.self.now c.self.invariant c.self.view_is n)))
