use Rattle.std.proofs.Common.{◌≡◌, true, false, sym}
use Rattle.hq_derive.proofs.Founded.{below_before}
use Rattle.hq_derive.proofs.grounds.is_below.Goals as goal

pub returns-in-None : goal.returns-in-None
returns-in-None c = (λ t. let never : ⊥ = cc in absurd never, λ b. absurd (c.in-None.ensures (below_before c.args.before.now c.args.round c.args.p c.args.r b)))

pub returns-then-not-holds : goal.returns-then-not-holds
returns-then-not-holds c = (
  λ t. let never : ⊥ = cc in absurd never,
  λ b. let t : true ≡ c.holds.result = sym (c.holds.ensures.1 (below_before c.args.before.now c.args.round c.args.p c.args.r b)) in let f : c.holds.result ≡ false = c.if-not-holds.true in let never : ⊥ = cc in absurd never,
)
