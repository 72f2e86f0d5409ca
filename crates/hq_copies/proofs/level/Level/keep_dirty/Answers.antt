use Rattle.std.proofs.Common.{ap, ap₂, sym, ◌∙◌, None, cond}
use Rattle.hq_copies.specs.Copies.{dirty_only}
use Rattle.hq_copies.specs.Edges.{layered}
use Rattle.hq_copies.specs.Marks.{byte_of}
use Rattle.hq_copies.proofs.Levels.{got, given, get_only, only_dirty, nothing_kept}
use Rattle.hq_model.specs.Machine.{is_dirty}
use Rattle.hq_copies.proofs.level.Level.keep_dirty.Goals as goal

pub returns-then-self : goal.returns-then-self
returns-then-self c = given (record { lower = c.clear.new.self; upper = c.self.inside.upper; dirty = c.self.inside.dirty }) (dirty_only c.args.self.now) (record { lower_runs = c.clear.ensures.runs; upper_runs = c.self.invariant.upper_runs })
    (λ n.
    let lower = byte_of c.self.inside.lower n in
    let upper = byte_of c.self.inside.upper n in
    ap₂ (λ d t. layered d upper t) c.if-self.true (c.clear.ensures.none n)
    ∙ only_dirty upper lower
    ∙ ap (λ t. cond (is_dirty t) t None) (ap (λ d. layered d upper lower) (sym c.if-self.true) ∙ sym (got c.self.inside c.args.self.now c.self.invariant c.self.view_is n))
    ∙ sym (get_only c.args.self.now n))

pub returns : goal.returns
returns c = given (record { lower = c.clear.new.self; upper = c.clear-2.new.self; dirty = c.self.inside.dirty }) (dirty_only c.args.self.now) (record { lower_runs = c.clear.ensures.runs; upper_runs = c.clear-2.ensures.runs })
    (λ n.
    let lower = byte_of c.self.inside.lower n in
    let upper = byte_of c.self.inside.upper n in
    ap₂ (layered c.self.inside.dirty) (c.clear-2.ensures.none n) (c.clear.ensures.none n)
    ∙ nothing_kept upper lower
    ∙ ap (λ t. cond (is_dirty t) t None) (ap (λ d. layered d upper lower) (sym c.if-self.false) ∙ sym (got c.self.inside c.args.self.now c.self.invariant c.self.view_is n))
    ∙ sym (get_only c.args.self.now n))
