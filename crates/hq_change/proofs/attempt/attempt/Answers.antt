use Rattle.std.proofs.Common.{length, true, false, sym, ◌∙◌, ap, subst, arith}
use Rattle.std.proofs.lemmas.Bool.{true≢false}
use Rattle.std.proofs.lemmas.List.{with_items_is}
use Rattle.hq_job.specs.Plan.{plan}
use Rattle.hq_change.specs.Between.{SetBetween}
use Rattle.hq_change.specs.Levels.{AreLowered}
use Rattle.hq_change.proofs.Between.{rounds_stay, attempted_went, attempted_back}
use Rattle.hq_change.proofs.Whole.{parts_stay, room_of, lowered_as, attempted_as}
use Rattle.hq_change.proofs.attempt.attempt.Goals.{then-ordered, else-ordered}
use Rattle.hq_change.proofs.attempt.attempt.Goals as goal

pub rounds_for-requires : goal.rounds_for-requires
rounds_for-requires c = λ n.
    let search = c.args.search.now in
    let heads = c.args.heads.now.items in
    let copy = c.in_ok-lowered.lowered in
    let start_is = c.deref_mut.ensures.value ∙ c.in_ok-lowered.ensures ∙ c.deref.ensures.value in
    let back = with_items_is copy c.lower_between.new.heads (omega (arith, c.lower_between.auto.heads, ap length c.deref_mut.ensures.value, copy.ok.0)) in
    let lower = lowered_as search.level search.floor.now c.args.from c.args.to heads c.deref_mut.result.now c.deref-2.result.now c.lower_between.new.heads start_is (c.deref-2.ensures.value ∙ back) c.lower_between.ensures.lowered in
    rounds_stay search.level search.floor.now c.args.from c.args.to (plan c.args.job.now) (plan c.set_between.new.job) heads c.deref-2.result.now c.args.rounds
    c.requires.on (room_of c.args.job.now c.args.to c.requires.to) lower c.set_between.ensures.set (c.requires.rounds n) n

pub judged-ordered-requires-clause-parts : goal.judged-ordered-requires-clause-parts
judged-ordered-requires-clause-parts c = parts_stay (plan c.args.job.now) (plan c.set_between.new.job) c.args.search.now.parts.now c.set_between.ensures.set.same c.requires.parts

pub returns-clause-attempted : goal.returns-clause-attempted
returns-clause-attempted c =
    let search = c.args.search.now in
    let heads = c.args.heads.now.items in
    let copy = c.in_ok-lowered.lowered in
    let start_is = c.deref_mut.ensures.value ∙ c.in_ok-lowered.ensures ∙ c.deref.ensures.value in
    let back = with_items_is copy c.lower_between.new.heads (omega (arith, c.lower_between.auto.heads, ap length c.deref_mut.ensures.value, copy.ok.0)) in
    let low = c.deref-2.result.now in
    let lower = lowered_as search.level search.floor.now c.args.from c.args.to heads c.deref_mut.result.now low c.lower_between.new.heads start_is (c.deref-2.ensures.value ∙ back) c.lower_between.ensures.lowered in
    let old = plan c.args.job.now in
    let new = plan c.set_between.new.job in
    let room = room_of c.args.job.now c.args.to c.requires.to in
    let rounds = c.judged-ordered.result.1 in
    elim c.if-ordered.branch [
      | then-ordered w ↦
          attempted_as search.level search.floor.now c.args.from c.args.to old new (plan c.if-ordered.job) low c.if-ordered.heads.items rounds true c.judged-ordered.result.0 (ap plan w.job-is) (ap (λ v. v.items) w.heads-is ∙ sym c.deref-2.ensures.value) w.if-ordered.true
          (attempted_went search.level search.floor.now c.args.from c.args.to old new heads low rounds c.requires.on room lower c.set_between.ensures.set (c.judged-ordered.ensures.shown w.if-ordered.true) c.judged-ordered.ensures.rounds)
      | else-ordered w ↦
          let put = plan w.set_between-else-ordered.new.job in
          let unset = subst (λ xs. SetBetween xs c.args.from c.args.to new put) w.deref-else-ordered.ensures.value w.set_between-else-ordered.ensures.set in
          attempted_as search.level search.floor.now c.args.from c.args.to old put (plan c.if-ordered.job) heads c.if-ordered.heads.items rounds false c.judged-ordered.result.0 (ap plan w.job-is) (ap (λ v. v.items) w.heads-is) w.if-ordered.false
          (attempted_back search.level search.floor.now c.args.from c.args.to old new heads low rounds c.requires.on room lower c.set_between.ensures.set put unset (c.judged-ordered.ensures.refused w.if-ordered.false) c.judged-ordered.ensures.rounds)
    ]

pub returns-clause-lowered : goal.returns-clause-lowered
returns-clause-lowered c =
    let search = c.args.search.now in
    let heads = c.args.heads.now.items in
    let copy = c.in_ok-lowered.lowered in
    let start_is = c.deref_mut.ensures.value ∙ c.in_ok-lowered.ensures ∙ c.deref.ensures.value in
    let back = with_items_is copy c.lower_between.new.heads (omega (arith, c.lower_between.auto.heads, ap length c.deref_mut.ensures.value, copy.ok.0)) in
    let low = c.deref-2.result.now in
    let lower = lowered_as search.level search.floor.now c.args.from c.args.to heads c.deref_mut.result.now low c.lower_between.new.heads start_is (c.deref-2.ensures.value ∙ back) c.lower_between.ensures.lowered in
    elim c.if-ordered.branch [
      | then-ordered w ↦ λ e.
          subst (AreLowered search.level search.floor.now c.args.from c.args.to heads) (sym (ap (λ v. v.items) w.heads-is ∙ sym c.deref-2.ensures.value)) lower
      | else-ordered w ↦ λ e. absurd (true≢false (sym e ∙ w.if-ordered.false))
    ]

pub returns-clause-kept : goal.returns-clause-kept
returns-clause-kept c = elim c.if-ordered.branch [
  | then-ordered w ↦ λ e. absurd (true≢false (sym w.if-ordered.true ∙ e))
  | else-ordered w ↦ λ e. ap (λ v. v.items) w.heads-is
]

pub returns-clause-low : goal.returns-clause-low
returns-clause-low c = λ e.
    let search = c.args.search.now in
    let heads = c.args.heads.now.items in
    let copy = c.in_ok-lowered.lowered in
    let start_is = c.deref_mut.ensures.value ∙ c.in_ok-lowered.ensures ∙ c.deref.ensures.value in
    let back = with_items_is copy c.lower_between.new.heads (omega (arith, c.lower_between.auto.heads, ap length c.deref_mut.ensures.value, copy.ok.0)) in
    let low = c.deref-2.result.now in
    let lower = lowered_as search.level search.floor.now c.args.from c.args.to heads c.deref_mut.result.now low c.lower_between.new.heads start_is (c.deref-2.ensures.value ∙ back) c.lower_between.ensures.lowered in
    record {
      low = low;
      setting = plan c.set_between.new.job;
      lowered = lower;
      set = c.set_between.ensures.set;
      refused = c.judged-ordered.ensures.refused e;
    }
