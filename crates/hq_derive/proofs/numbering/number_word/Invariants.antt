use Rattle.hq_derive.proofs.numbering.number_word.Given as goal

abbrev pub decreases-each : goal.decreases-each
decreases-each l = l.rest
