use Rattle.std.proofs.Common.{◌≡◌, ◌<◌, ℕ, length, sym, subst, ◌∙◌, false, true}
use Rattle.hq_order.specs.Rounds.{Between, IsMiddle}
use Rattle.hq_derive.specs.Rests.{FollowsAlone, NoneAlone}
use Rattle.hq_derive.proofs.Founded.{within_first, within_second, never_refuted, some_there, middle_between}
use Rattle.hq_derive.proofs.grounds.ground_of.Goals as goal

pub rule_alone-requires-clause-p_is : goal.rule_alone-requires-clause-p_is
rule_alone-requires-clause-p_is c = subst (λ v. c.args.p < length v.packets) (sym c.job.ensures) (within_first c.args.before.now c.args.round c.args.p c.args.r c.requires.within)

pub rule_alone-requires-clause-r_is : goal.rule_alone-requires-clause-r_is
rule_alone-requires-clause-r_is c = subst (λ v. c.args.r < length v.packets) (sym c.job.ensures) (within_second c.args.before.now c.args.round c.args.p c.args.r c.requires.within)

pub is_either-requires-clause-p_is : goal.is_either-requires-clause-p_is
is_either-requires-clause-p_is c = within_first c.args.before.now c.args.round c.args.p c.args.r c.requires.within

pub is_either-requires-clause-r_is : goal.is_either-requires-clause-r_is
is_either-requires-clause-r_is c = within_second c.args.before.now c.args.round c.args.p c.args.r c.requires.within

pub unwrap-requires : goal.unwrap-requires
unwrap-requires c =
    let job = c.args.before.now in
    let p = c.args.p in
    let r = c.args.r in
    some_there c.middle.result ((m : ℕ) → Between job c.args.round p r m → ⊥) (IsMiddle job c.args.round p r) c.middle.ensures
    (λ none. never_refuted job c.args.round p r c.requires
    (record {
      alone = subst (λ v. NoneAlone v p r) c.job.ensures c.in_default.ensures;
      no_either = λ b. let t : true ≡ false = sym (c.is_either.ensures.1 b) ∙ c.if-is_either.false in cc;
      no_middle = λ m b. none m (middle_between job c.args.round p r m b);
    }))

pub middle-requires-clause-p_is : goal.middle-requires-clause-p_is
middle-requires-clause-p_is c = within_first c.args.before.now c.args.round c.args.p c.args.r c.requires.within

pub returns-in-Some : goal.returns-in-Some
returns-in-Some c = subst (λ v. FollowsAlone v c.args.p c.args.r c.in-Some.rule) c.job.ensures c.in-Some.ensures
