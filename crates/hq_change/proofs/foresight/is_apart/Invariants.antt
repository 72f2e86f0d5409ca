use Rattle.hq_change.proofs.foresight.is_apart.Given as goal

abbrev pub invariant-loop-a : goal.invariant-loop-a
invariant-loop-a l = Unit {0}
