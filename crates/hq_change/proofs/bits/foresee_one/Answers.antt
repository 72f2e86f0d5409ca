use Rattle.std.proofs.Common.{sym, subst, arith}
use Rattle.std.proofs.lemmas.Option.{slice_get-get_or}
use Rattle.hq_job.specs.Plan.{plan}
use Rattle.hq_model.specs.Settings.{SameButHeads}
use Rattle.hq_model.proofs.SettingsSteps.{heads_are_set}
use Rattle.hq_change.proofs.Foreseeing.{conflicts_stay, back_if, gone_if}
use Rattle.hq_change.proofs.Whole.{is_planned}
use Rattle.hq_change.proofs.bits.foresee_one.Goals as goal

pub is_apart-requires : goal.is_apart-requires
is_apart-requires c =
    let job = plan c.args.job.now in
    let is = is_planned c.args.job.now c.args.p c.requires.p_is in
    conflicts_stay job (plan c.set_head.new.self) c.args.foresight.now.conflicts.now (subst (SameButHeads job) (sym c.set_head.ensures.plan) (heads_are_set job c.args.p c.in-Some.lowered is).same) c.requires.conflicts

pub returns-then-branch-clause-foreseen : goal.returns-then-branch-clause-foreseen
returns-then-branch-clause-foreseen c =
    let is = is_planned c.args.job.now c.args.p c.requires.p_is in
    let there = slice_get-get_or c.args.floor.now c.args.p _ (omega (arith, c.requires.p_is, c.requires.floored)) in
    back_if c.args.floor.now c.args.p (plan c.args.job.now) _ c.head-head.result c.in-Some.lowered (plan c.set_head.new.self) is there c.requires.above c.head-head.ensures c.in-Some.ensures c.set_head.ensures.plan
    (c.in_ok-is_apart.ensures c.if-branch.true) (plan c.set_head-then-branch.new.self) c.set_head-then-branch.ensures.plan

pub returns-else-branch-clause-foreseen : goal.returns-else-branch-clause-foreseen
returns-else-branch-clause-foreseen c =
    let is = is_planned c.args.job.now c.args.p c.requires.p_is in
    let there = slice_get-get_or c.args.floor.now c.args.p _ (omega (arith, c.requires.p_is, c.requires.floored)) in
    gone_if c.args.floor.now c.args.p (plan c.args.job.now) _ c.head-head.result c.in-Some.lowered (plan c.set_head.new.self) is there c.requires.above c.head-head.ensures c.in-Some.ensures c.set_head.ensures.plan
