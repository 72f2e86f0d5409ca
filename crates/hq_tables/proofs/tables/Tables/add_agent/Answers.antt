use Rattle.std.proofs.Common.{refl, sym, ◌∙◌, inl, inr, arith}
use Rattle.hq_tables.proofs.Found.{name_there}
use Rattle.hq_tables.proofs.tables.Tables.add_agent.Goals as goal

pub returns-then-contains : goal.returns-then-contains
returns-then-contains c = (refl, inr (inr (λ full. omega arith, inl (name_there c.args.self.now.agents.keys c.args.name (sym c.contains.ensures ∙ c.if-contains.true), refl))))
