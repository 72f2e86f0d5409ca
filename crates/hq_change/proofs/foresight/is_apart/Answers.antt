use Rattle.std.proofs.Common.{◌<◌, length, sym, ◌∙◌, ap, subst, arith, IsTrue}
use Rattle.std.specs.Prelude.{IfSome}
use Rattle.hq_job.specs.Plan.{plan}
use Rattle.hq_bits.specs.Bits.{has}
use Rattle.hq_rows.specs.Matrix.{Marks, row}
use Rattle.hq_order.specs.Sweeping.{HaveOrder}
use Rattle.hq_rows.proofs.Rows.{row_is}
use Rattle.hq_change.proofs.Foreseeing.{apart_refuses}
use Rattle.hq_change.proofs.foresight.is_apart.Goals as goal

pub has_apart-requires-clause-few : goal.has_apart-requires-clause-few
has_apart-requires-clause-few c =
    let h = subst (λ o. IfSome o (λ all. HaveOrder (plan c.args.job.now) all.items)) c.in-Some.is c.in_ok-rows.ensures in
    let low : c.loop-a.a < length (plan c.args.job.now).packets = omega (arith, c.loop-a-test.true, c.len-a-end.ensures, h.square.height) in
    let conflicts = c.requires.square in
    let there = row_is c.args.foresight.now.conflicts.now c.loop-a.a c.index-foresight-a.result (omega (arith, low, conflicts.height)) c.index-foresight-a.is in
    let wide = ap length (c.deref-in-loop-a.ensures.value ∙ ap (λ v. v.items) (sym c.index-foresight-a.is) ∙ sym there) ∙ conflicts.width c.loop-a.a low in
    omega (arith, wide, conflicts.few)

pub has_apart-requires-clause-width : goal.has_apart-requires-clause-width
has_apart-requires-clause-width c =
    let h = subst (λ o. IfSome o (λ all. HaveOrder (plan c.args.job.now) all.items)) c.in-Some.is c.in_ok-rows.ensures in
    let low : c.loop-a.a < length (plan c.args.job.now).packets = omega (arith, c.loop-a-test.true, c.len-a-end.ensures, h.square.height) in
    let conflicts = c.requires.square in
    let there = row_is c.args.foresight.now.conflicts.now c.loop-a.a c.index-foresight-a.result (omega (arith, low, conflicts.height)) c.index-foresight-a.is in
    ap (λ rows. length (row rows c.loop-a.a)) c.deref.ensures.value ∙ h.square.width c.loop-a.a low ∙ sym (ap length (c.deref-in-loop-a.ensures.value ∙ ap (λ v. v.items) (sym c.index-foresight-a.is) ∙ sym there) ∙ conflicts.width c.loop-a.a low)

pub returns-then-branch : goal.returns-then-branch
returns-then-branch c = λ t.
    let h = subst (λ o. IfSome o (λ all. HaveOrder (plan c.args.job.now) all.items)) c.in-Some.is c.in_ok-rows.ensures in
    let a = c.loop-a.a in
    let low : a < length (plan c.args.job.now).packets = omega (arith, c.loop-a-test.true, c.len-a-end.ensures, h.square.height) in
    let there = row_is c.args.foresight.now.conflicts.now a c.index-foresight-a.result (omega (arith, low, c.requires.square.height)) c.index-foresight-a.is in
    let apart = c.in_ok-has_apart.ensures c.if-branch.true in
    let b = apart.0 in
    let conflict = c.requires.conflict b a (subst (λ xs. IsTrue (has xs b)) (c.deref-in-loop-a.ensures.value ∙ ap (λ v. v.items) (sym c.index-foresight-a.is) ∙ sym there) apart.1) in
    apart_refuses (plan c.args.job.now) c.in-Some.rows.items b a h conflict.0 low conflict.1
    (subst (λ rows. ¬ Marks rows b a) c.deref.ensures.value apart.2) (subst (λ rows. ¬ Marks rows a b) c.deref.ensures.value apart.3)
