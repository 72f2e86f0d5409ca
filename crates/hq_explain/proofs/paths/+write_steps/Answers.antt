use Rattle.hq_derive.proofs.Founded.{within_first, within_second}
use Rattle.hq_explain.proofs.Saying.{alone_rule, first_half, joined_on, second_half}
use Rattle.hq_explain.proofs.paths.+write_steps.Goals as goal

pub middle-requires-clause-p_is : goal.middle-requires-clause-p_is
middle-requires-clause-p_is g t c = within_first c.args.before.now c.args.round c.args.p c.args.r c.requires.within

pub first_round-first-requires : goal.first_round-first-requires
first_round-first-requires g t c = first_half c.args.before.now c.args.round c.args.p c.args.r c.in-Some.m c.in-Some.ensures.between

pub first_round-second-requires : goal.first_round-second-requires
first_round-second-requires g t c = second_half c.args.before.now c.args.round c.args.p c.args.r c.in-Some.m c.in-Some.ensures.between

pub write_step-requires-clause-p_is : goal.write_step-requires-clause-p_is
write_step-requires-clause-p_is g t c = within_first c.args.before.now c.args.round c.args.p c.args.r c.requires.within

pub write_step-requires-clause-r_is : goal.write_step-requires-clause-r_is
write_step-requires-clause-r_is g t c = within_second c.args.before.now c.args.round c.args.p c.args.r c.requires.within

pub write_step-requires-clause-direct : goal.write_step-requires-clause-direct
write_step-requires-clause-direct g t c = alone_rule c.args.before.now c.args.round c.args.p c.args.r c.requires c.in-None.ensures

pub returns-in_ok-write_steps-in-Some : goal.returns-in_ok-write_steps-in-Some
returns-in_ok-write_steps-in-Some g t c =
    let at = g.W.Write.contents in
    joined_on c.write_steps-in-Some.result (at c.args.writer.now) (at c.write_steps.new.writer) (at c.write_steps-in-Some.new.writer) c.args.job.now c.args.before.now c.args.p c.in-Some.m c.args.r c.in_ok-write_steps-in-Some.ensures
    c.write_steps-in-Some.ensures
