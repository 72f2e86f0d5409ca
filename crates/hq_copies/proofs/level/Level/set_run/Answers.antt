use Rattle.std.proofs.Common.{ap, refl, sym, ◌∙◌, true}
use Rattle.hq_copies.specs.Edges.{layered}
use Rattle.hq_copies.specs.Marks.{byte_of}
use Rattle.hq_copies.specs.Overlays.{run_at, dirty_over}
use Rattle.hq_copies.proofs.Levels.{got, given, over_layers, on_err}
use Rattle.hq_copies.proofs.level.Level.set_run.Goals as goal

pub returns-in_err-settle-clause-err : goal.returns-in_err-settle-clause-err
returns-in_err-settle-clause-err c = on_err c.from_residual.result _ (given (record { lower = c.settle.new.lower; upper = c.settle.new.upper; dirty = c.self.inside.dirty }) c.args.self.now (record { lower_runs = c.settle.ensures.lower; upper_runs = c.settle.ensures.upper })
    (λ n. c.in_err-settle.ensures.err n ∙ sym (got c.self.inside c.args.self.now c.self.invariant c.self.view_is n)))

pub returns-in_err-put-clause-err : goal.returns-in_err-put-clause-err
returns-in_err-put-clause-err c = on_err c.from_residual-in_err-put.result _ (given (record { lower = c.settle.new.lower; upper = c.put.new.self; dirty = true }) c.args.self.now (record { lower_runs = c.settle.ensures.lower; upper_runs = c.put.ensures.runs })
    (λ n. ap (λ t. layered true t (byte_of c.settle.new.lower n)) (c.in_err-put.ensures.err n) ∙ c.in_ok-settle.ensures.ok n ∙ sym (got c.self.inside c.args.self.now c.self.invariant c.self.view_is n)))

pub returns-clause-ok : goal.returns-clause-ok
returns-clause-ok c n =
    got (record { lower = c.settle.new.lower; upper = c.put.new.self; dirty = true }) _ (record { lower_runs = c.settle.ensures.lower; upper_runs = c.put.ensures.runs }) refl n
    ∙ ap (λ t. layered true t (byte_of c.settle.new.lower n)) (c.in_ok-put.ensures.ok n)
    ∙ over_layers (run_at c.args.start c.args.bytes.now n) (byte_of c.settle.new.upper n) (byte_of c.settle.new.lower n)
    ∙ ap (dirty_over (run_at c.args.start c.args.bytes.now n)) (c.in_ok-settle.ensures.ok n ∙ sym (got c.self.inside c.args.self.now c.self.invariant c.self.view_is n))
