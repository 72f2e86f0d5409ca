use Rattle.std.proofs.Common.{arith, sym, length}
use Rattle.std.proofs.lemmas.Bool.{ltb-true}
use Rattle.hq_ordercheck.proofs.Options.{none_some}
use Rattle.hq_certcheck.proofs.Saying.{says_here, says_of}
use Rattle.hq_certcheck.proofs.citing.follower.Goals as goal
use Rattle.hq_certcheck.proofs.citing.follower.Goals.{else-k-limit-via-then-k-limit+else-line-p, else-k-limit-via-else-k-limit}

pub returns-then-line-p : goal.returns-then-line-p
returns-then-line-p c =
    let found = c.in_ok-line.ensures.lookup in
    says_here c.args.lines.now c.args.limit c.args.k c.args.p c.in_ok-line.line.now (ltb-true c.args.k (length c.args.lines.now) (sym found.0)) found.1 c.if-k-limit.true c.if-line-p.true

pub returns-else-k-limit : goal.returns-else-k-limit
returns-else-k-limit c = λ r.
    let found = c.in_ok-line.ensures.lookup in (
      λ h. absurd (none_some r h),
      λ s.
          let (low, same) = says_of c.args.lines.now c.args.limit c.args.k c.args.p r c.in_ok-line.line.now (ltb-true c.args.k (length c.args.lines.now) (sym found.0)) found.1 s in
          elim c.else-k-limit.branch [
            | else-k-limit-via-then-k-limit+else-line-p w ↦ absurd (w.if-line-p.false same)
            | else-k-limit-via-else-k-limit w ↦ absurd (omega (arith, w.if-k-limit.false, low))
          ],
    )
