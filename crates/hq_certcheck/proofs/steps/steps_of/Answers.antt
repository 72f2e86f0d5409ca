use Rattle.std.proofs.Common.{arith}
use Rattle.hq_footprint.proofs.RangeBytes.{bytes_counted, entries_counted}
use Rattle.hq_certcheck.proofs.steps.steps_of.Goals as goal

pub returns-clause-steps : goal.returns-clause-steps
returns-clause-steps c = omega (arith, c.dependencies.ensures.count, c.total.ensures.total, entries_counted c.args.packet.now.bytes, bytes_counted c.args.packet.now.bytes.write)
