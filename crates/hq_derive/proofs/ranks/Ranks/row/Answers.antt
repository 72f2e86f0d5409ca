use Rattle.hq_derive.proofs.ranks.Ranks.row.Goals as goal

pub returns-in-None-clause-places : goal.returns-in-None-clause-places
returns-in-None-clause-places c = λ k place. (λ e. absurd cc, λ is. absurd (c.in-None.ensures is.0 is.1))
