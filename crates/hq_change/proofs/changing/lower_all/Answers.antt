use Rattle.std.proofs.Common.{sym}
use Rattle.std.proofs.lemmas.Result.{IfOk-weaker}
use Rattle.hq_job.specs.Plan.{plan}
use Rattle.hq_model.proofs.SettingsSteps.{raises_on}
use Rattle.hq_change.proofs.Whole.{parts_stay, all_levels, floored_below}
use Rattle.hq_change.proofs.changing.lower_all.Goals as goal

pub settle-requires-2-clause-parts : goal.settle-requires-2-clause-parts
settle-requires-2-clause-parts g c = parts_stay (plan c.args.job.now) (plan c.settle.new.job) c.args.parts.now (sym c.in_ok-rounds.ensures.settles.below.same) c.requires.parts

pub settle-requires-3-clause-parts : goal.settle-requires-3-clause-parts
settle-requires-3-clause-parts g c =
    let down = raises_on (plan c.settle-2.new.job) (plan c.settle.new.job) (plan c.args.job.now) c.in_ok-rounds-2.ensures.settles.below c.in_ok-rounds.ensures.settles.below in
    parts_stay (plan c.args.job.now) (plan c.settle-2.new.job) c.args.parts.now (sym down.same) c.requires.parts

pub settle-requires-4-clause-parts : goal.settle-requires-4-clause-parts
settle-requires-4-clause-parts g c =
    let two = raises_on (plan c.settle-2.new.job) (plan c.settle.new.job) (plan c.args.job.now) c.in_ok-rounds-2.ensures.settles.below c.in_ok-rounds.ensures.settles.below in
    let down = raises_on (plan c.settle-3.new.job) (plan c.settle-2.new.job) (plan c.args.job.now) c.in_ok-rounds-3.ensures.settles.below two in
    parts_stay (plan c.args.job.now) (plan c.settle-3.new.job) c.args.parts.now (sym down.same) c.requires.parts

pub conflicts_of-requires-clause-parts : goal.conflicts_of-requires-clause-parts
conflicts_of-requires-clause-parts g c =
    let two = raises_on (plan c.settle-2.new.job) (plan c.settle.new.job) (plan c.args.job.now) c.in_ok-rounds-2.ensures.settles.below c.in_ok-rounds.ensures.settles.below in
    let three = raises_on (plan c.settle-3.new.job) (plan c.settle-2.new.job) (plan c.args.job.now) c.in_ok-rounds-3.ensures.settles.below two in
    let down = raises_on (plan c.settle-4.new.job) (plan c.settle-3.new.job) (plan c.args.job.now) c.in_ok-rounds-4.ensures.settles.below three in
    parts_stay (plan c.args.job.now) (plan c.settle-4.new.job) c.args.parts.now (sym down.same) c.requires.parts

pub settle_bits-requires-clause-parts : goal.settle_bits-requires-clause-parts
settle_bits-requires-clause-parts g c =
    let two = raises_on (plan c.settle-2.new.job) (plan c.settle.new.job) (plan c.args.job.now) c.in_ok-rounds-2.ensures.settles.below c.in_ok-rounds.ensures.settles.below in
    let three = raises_on (plan c.settle-3.new.job) (plan c.settle-2.new.job) (plan c.args.job.now) c.in_ok-rounds-3.ensures.settles.below two in
    let down = raises_on (plan c.settle-4.new.job) (plan c.settle-3.new.job) (plan c.args.job.now) c.in_ok-rounds-4.ensures.settles.below three in
    parts_stay (plan c.args.job.now) (plan c.settle-4.new.job) c.args.parts.now (sym down.same) c.requires.parts

pub returns-clause-below : goal.returns-clause-below
returns-clause-below g c =
    let two = raises_on (plan c.settle-2.new.job) (plan c.settle.new.job) (plan c.args.job.now) c.in_ok-rounds-2.ensures.settles.below c.in_ok-rounds.ensures.settles.below in
    let three = raises_on (plan c.settle-3.new.job) (plan c.settle-2.new.job) (plan c.args.job.now) c.in_ok-rounds-3.ensures.settles.below two in
    let four = raises_on (plan c.settle-4.new.job) (plan c.settle-3.new.job) (plan c.args.job.now) c.in_ok-rounds-4.ensures.settles.below three in
    IfOk-weaker c.settle_bits.result _ _ (λ _ bits. raises_on (plan c.settle_bits.new.job) (plan c.settle-4.new.job) (plan c.args.job.now) bits.all.below four) c.settle_bits.ensures.settled

pub returns-clause-minimal : goal.returns-clause-minimal
returns-clause-minimal g c =
    let first = c.in_ok-rounds.ensures.settles in
    let second = c.in_ok-rounds-2.ensures.settles in
    let third = c.in_ok-rounds-3.ensures.settles in
    let fourth = c.in_ok-rounds-4.ensures.settles in
    let last = plan c.settle_bits.new.job in
    IfOk-weaker c.settle_bits.result _ _ (λ _ bits.
    all_levels c.args.floor.now (plan c.settle.new.job) (plan c.settle-2.new.job) (plan c.settle-3.new.job) (plan c.settle-4.new.job) last
    second.below third.below fourth.below first.settled second.settled third.settled fourth.settled
    (floored_below c.args.floor.now (plan c.settle-4.new.job) last fourth.on.floored bits.all.below) bits) c.settle_bits.ensures.settled
