use Rattle.std.proofs.Common.{◌+◌, ◌<◌, length, sym, ◌∙◌, subst, arith}
use Rattle.std.proofs.lemmas.Option.{slice_get-get_or}
use Rattle.hq_change.specs.Levels.{AreLowered, SomeOther}
use Rattle.hq_change.proofs.Between.{one_lowered, one_other, one_stays}
use Rattle.hq_change.proofs.heads.lower_between.Goals.{in-Some, in_default}
use Rattle.hq_change.proofs.heads.lower_between.Goals as goal

pub loop-p-preserved : goal.loop-p-preserved
loop-p-preserved c =
    let i = c.loop-p.p in
    let h = c.loop-p.invariant in
    let room : i < length c.loop-p.heads = omega (arith, c.loop-p-test.true, c.requires.to, h.lowered.len) in
    let there = slice_get-get_or c.args.floor.now i _ (omega (arith, c.loop-p-test.true, c.requires.to, c.requires.floor)) in
    let there_is = slice_get-get_or c.loop-p.heads i _ room in
    elim c.match-lower.branch [
      | in-Some w ↦ record {
        above = omega (arith, h.above);
        lowered = subst (AreLowered c.args.level c.args.floor.now c.args.from (i + 1) c.args.heads.now) (sym w.heads-is)
            (one_lowered c.args.level c.args.floor.now c.args.from i c.args.heads.now c.loop-p.heads h.lowered h.above _ _ there there_is w.in-Some.head w.in-Some.ensures);
        none = λ e. absurd (cc (e, w.some-is));
        some = λ e. subst (SomeOther c.args.heads.now) (sym w.heads-is)
            (one_other c.args.level c.args.floor.now c.args.from i c.args.heads.now c.loop-p.heads h.lowered h.above _ _ there there_is w.in-Some.head w.in-Some.ensures);
      }
      | in_default w ↦ record {
        above = omega (arith, h.above);
        lowered = subst (AreLowered c.args.level c.args.floor.now c.args.from (i + 1) c.args.heads.now) (sym w.heads-is)
            (one_stays c.args.level c.args.floor.now c.args.from i c.args.heads.now c.loop-p.heads h.lowered h.above _ _ there there_is w.in_default.ensures);
        none = λ e. w.heads-is ∙ h.none (sym w.some-is ∙ e);
        some = λ e. subst (SomeOther c.args.heads.now) (sym w.heads-is) (h.some (sym w.some-is ∙ e));
      }
    ]
