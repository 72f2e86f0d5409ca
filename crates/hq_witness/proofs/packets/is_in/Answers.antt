use Rattle.hq_witness.proofs.Bytes.{in_range, below_range}
use Rattle.hq_witness.proofs.packets.is_in.Goals as goal

pub returns-then-range-byte : goal.returns-then-range-byte
returns-then-range-byte c = in_range c.args.range c.args.byte c.if-range-byte.true

pub returns-else-range-byte : goal.returns-else-range-byte
returns-else-range-byte c = below_range c.args.range c.args.byte c.if-range-byte.false
