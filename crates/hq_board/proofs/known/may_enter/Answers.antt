use Rattle.std.proofs.Common.{sym, ◌∙◌}
use Rattle.std.proofs.lemmas.Bool.{true≢false}
use Rattle.hq_job.specs.Plan.{plan}
use Rattle.hq_board.specs.History.{after}
use Rattle.hq_board.specs.Known.{log_of}
use Rattle.hq_board.proofs.Knowing.{own_place, waits, entered_phase, there_own}
use Rattle.hq_board.proofs.known.may_enter.Goals as goal

pub returns-in_default : goal.returns-in_default
returns-in_default c q may = c.in_default.ensures (own_place (plan c.args.job.now) c.args.known.now c.args.packet c.requires.tied may.0 q)

pub wait_is_over-requires : goal.wait_is_over-requires
wait_is_over-requires c = there_own (plan c.args.job.now) c.args.known.now c.args.packet c.in-Some.place c.requires.tied c.in-Some.ensures.1 c.in-Some.ensures.0

pub returns-then-not-wait_is_over : goal.returns-then-not-wait_is_over
returns-then-not-wait_is_over c q may =
    let job = plan c.args.job.now in
    let known = c.args.known.now in
    let over = c.wait_is_over.ensures (after job (log_of known)) (waits job known c.args.packet c.in-Some.place c.index.result.now c.requires.tied c.in-Some.ensures.1 c.in-Some.ensures.0 c.index.ensures) in
    true≢false (sym (over.1 may.2) ∙ c.if-not-wait_is_over.true)

pub returns : goal.returns
returns c =
    let job = plan c.args.job.now in
    let known = c.args.known.now in
    let over = c.wait_is_over.ensures (after job (log_of known)) (waits job known c.args.packet c.in-Some.place c.index.result.now c.requires.tied c.in-Some.ensures.1 c.in-Some.ensures.0 c.index.ensures) in (
      c.in-Some.ensures.0,
      c.in-Some.ensures.1,
      (
        there_own job known c.args.packet c.in-Some.place c.requires.tied c.in-Some.ensures.1 c.in-Some.ensures.0,
        entered_phase job known c.args.packet c.in-Some.place c.requires.tied c.in-Some.ensures.1 c.in-Some.ensures.0 (c.is_in.ensures.0 c.if-not-is_in.false),
        over.0 c.if-not-wait_is_over.false,
      ),
    )
