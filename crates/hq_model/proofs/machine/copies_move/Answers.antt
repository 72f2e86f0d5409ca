use Rattle.hq_model.proofs.machine.copies_move.Goals as goal
use Rattle.hq_model.proofs.Moves as laws

pub returns : goal.returns
returns c = laws.copies_move
