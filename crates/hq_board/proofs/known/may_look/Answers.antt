use Rattle.std.proofs.Common.{◌≡◌, sym, ◌∙◌, subst, Some, None}
use Rattle.hq_job.specs.Plan.{plan}
use Rattle.hq_board.specs.History.{after, IsOpen}
use Rattle.hq_board.specs.Known.{log_of}
use Rattle.hq_board.proofs.Knowing.{looks_own, looks_if}
use Rattle.hq_board.proofs.known.may_look.Goals as goal

pub returns-in_default : goal.returns-in_default
returns-in_default c q may = c.in_default.ensures (looks_own (plan c.args.job.now) c.args.known.now c.args.packet c.args.slot c.requires.tied q may)

pub returns-in_default-dependency : goal.returns-in_default-dependency
returns-in_default-dependency c q may = let e : None ≡ Some may.signal = sym c.in_default-dependency.is ∙ (c.dependency.ensures.found may.signal).1 may.dependency in absurd cc

pub returns : goal.returns
returns c =
    let job = plan c.args.job.now in
    let k = c.args.known.now in
    let d = (c.dependency.ensures.found c.in-Some-dependency.signal).0 c.in-Some-dependency.is in (
      c.in-Some.ensures.0,
      c.in-Some.ensures.1,
      c.in-Some-dependency.ensures.few,
      d,
      looks_if job k c.args.packet c.args.slot c.in-Some-dependency.signal d (subst (λ p. IsOpen job (after job (log_of k)) p c.args.slot) (sym c.in-Some.ensures.0) (c.is_open.ensures.0 c.if-not-is_open.false)),
    )
