use Rattle.std.proofs.Common.{◌+◌, ◌<◌, inl, inr, arith, length}
use Rattle.std.proofs.lemmas.Bool.{cases_lt}
use Rattle.hq_machine.proofs.state.State.behind_launched.Goals as goal

pub all_launched-requires : goal.all_launched-requires
all_launched-requires c =
    let low = c.loop-numbers.invariant.0 in
    let last : c.loop-numbers.from + 63 < length c.args.self.now.phases = c.requires (c.loop-numbers.from + 63) (omega arith) (omega arith) in omega arith

pub loop-numbers-preserved : goal.loop-numbers-preserved
loop-numbers-preserved c = (
  omega (arith, c.loop-numbers.invariant.0),
  λ first e low high. elim (cases_lt e c.loop-numbers.from) [
    | inl l ↦ c.loop-numbers.invariant.1 first e low l
    | inr g ↦ (c.all_launched.ensures first).0 c.if-not-all_launched.false e g high
  ],
)
