use Rattle.hq_judging.proofs.laws.stuck_exactly.Goals as goal

pub returns : goal.returns
returns c = (c.stuck_exact.ensures, c.standstill_law.ensures)
