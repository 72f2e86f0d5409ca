use Rattle.std.proofs.Common.{arith}
use Rattle.hq_derive.proofs.shorts.Shorts.push.Goals as goal

pub invariant_of-self : goal.invariant_of-self
invariant_of-self c = c.put.ensures.placed c.self.inside.kept.items (λ four. absurd (omega (arith, four))) c.self.invariant

pub invariant_of-self-in-Queue : goal.invariant_of-self-in-Queue
invariant_of-self-in-Queue c = c.put-in-Queue.ensures.placed c.self-in-Queue.inside.kept.items (λ four. absurd (omega (arith, four))) c.self-in-Queue.invariant

pub invariant_of-self-in-And : goal.invariant_of-self-in-And
invariant_of-self-in-And c = c.put-in-And.ensures.placed c.self-in-And.inside.kept.items (λ four. absurd (omega (arith, four))) c.self-in-And.invariant

pub invariant_of-self-in-Through : goal.invariant_of-self-in-Through
invariant_of-self-in-Through c = c.put-in-Through.ensures.placed c.self-in-Through.inside.kept.items (λ four. absurd (omega (arith, four))) c.self-in-Through.invariant
