use Rattle.hq_lines.proofs.Pairs.{refused}
use Rattle.hq_lines.proofs.words.packet_said.Goals as goal

pub returns-in-Err : goal.returns-in-Err
returns-in-Err c = refused c.args.digits.now c.in-Some.bytes c.in-Err.fault c.in-Some.ensures.found.0 c.in-Some.ensures.found.1 c.in-Err.ensures.fault
