use Rattle.std.proofs.Common.{ℕ, ◌≡◌, ◌+◌, ◌<◌, ◌∷◌, [], length, length-append, ◌∙◌, ap, arith, IsTrue}
use Rattle.hq_bits.specs.Bits.{has}
use Rattle.hq_rows.specs.Matrix.{words_for}
use Rattle.hq_rows.proofs.Pushed.{pushed}
use Rattle.hq_rows.proofs.Rows.{marked_below}
use Rattle.hq_fence.specs.Judgement.{HaveConflict}
use Rattle.hq_change.proofs.foresight.conflict_rows.Goals as goal

pub loop-a-preserved : goal.loop-a-preserved
loop-a-preserved c =
    let e = c.in_ok-push.ensures.items in
    let l = c.loop-a in
    let row = c.in_ok-conflict_row.field-0 in
    let len = ap length e ∙ length-append l.rows.items (row ∷ []) ∙ ap (λ n. n + 1) l.invariant.len in
    record {
      len = len;
      width = pushed (λ r words. length words ≡ words_for (length c.args.before.now.packets)) l.rows.items row c.push.new.self.items l.a l.invariant.len e l.invariant.width c.in_ok-conflict_row.ensures.len;
      conflict = λ b a m. pushed (λ r words. IsTrue (has words b) → (b < r) × HaveConflict c.args.before.now b r) l.rows.items row c.push.new.self.items l.a l.invariant.len e (λ r low n. l.invariant.conflict b r n) (c.in_ok-conflict_row.ensures.conflict b) a (omega (arith, marked_below c.push.new.self.items b a m, len)) m;
      all = λ b a low less h. pushed (λ r words. (x : ℕ) → x < r → HaveConflict c.args.before.now x r → IsTrue (has words x)) l.rows.items row c.push.new.self.items l.a l.invariant.len e (λ r there x. l.invariant.all x r there) c.in_ok-conflict_row.ensures.all a low b less h;
    }

pub returns-clause-all : goal.returns-clause-all
returns-clause-all c = record { all = λ b a less is h. c.loop-a.invariant.all b a (omega (arith, is, c.loop-a-test.false)) less h }
