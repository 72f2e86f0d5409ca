use Rattle.hq_lines.proofs.Means as laws
use Rattle.hq_lines.proofs.laws.hex_means.Goals as goal

pub returns : goal.returns
returns c = laws.hex_means
