use Rattle.hq_derive.proofs.making.Making.word.Given as goal

abbrev pub decreases-each : goal.decreases-each
decreases-each l = l.rest
