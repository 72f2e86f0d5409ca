use Rattle.std.proofs.Common.{refl, sym, ◌∙◌, inl, inr, arith}
use Rattle.hq_tables.proofs.Found.{name_there, absent_name}
use Rattle.hq_tables.proofs.tables.Tables.add_signal.Goals as goal

pub returns-then-contains : goal.returns-then-contains
returns-then-contains c = (refl, inr (inr (λ full. omega arith, inl (name_there c.args.self.now.signal_names.keys c.args.name (sym c.contains.ensures ∙ c.if-contains.true), refl))))

pub returns-then-has : goal.returns-then-has
returns-then-has c =
    (refl, inr (inr (λ full. omega arith, inr (absent_name c.args.self.now.signal_names.keys c.args.name (sym c.contains.ensures ∙ c.if-contains.false), inl (c.has.ensures.0 c.if-has.true, refl)))))
