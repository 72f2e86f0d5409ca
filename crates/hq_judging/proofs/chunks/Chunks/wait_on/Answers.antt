use Rattle.std.proofs.Common.{◌++◌}
use Rattle.hq_text.specs.Lines.{lines_of}
use Rattle.hq_judging.proofs.chunks.Chunks.wait_on.Goals as goal

pub returns-in-Err : goal.returns-in-Err
returns-in-Err g c = (c.read_on-came.ensures.0, c.read_on-came.ensures.1, (tt, λ from text h more. c.no_memory.ensures (lines_of (text ++ more))))
