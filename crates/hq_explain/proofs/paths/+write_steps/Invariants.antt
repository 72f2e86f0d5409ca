use Rattle.hq_explain.proofs.paths.+write_steps.Given as goal

abbrev pub decreases-write_steps : goal.decreases-write_steps
decreases-write_steps g l = l.round
