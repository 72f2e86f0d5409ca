use Rattle.hq_model.proofs.machine.without_rings.Goals as goal
use Rattle.hq_model.proofs.NoRings as laws

pub returns : goal.returns
returns c = laws.without_rings
