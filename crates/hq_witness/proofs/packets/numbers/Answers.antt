use Rattle.std.proofs.Common.{arith}
use Rattle.hq_model.specs.declared.limits.TheConstants.{BYTES}
use Rattle.hq_witness.proofs.Bytes.{numbered}
use Rattle.hq_witness.proofs.packets.numbers.Goals as goal

pub returns-clause-are : goal.returns-clause-are
returns-clause-are c = λ b low.
    numbered c.args.range b c.min-start.result c.min-end.result c.saturating_add.result BYTES 18446744073709551615 c.min-start.ensures c.saturating_add.ensures c.min-end.ensures (omega arith) low
