use Rattle.std.proofs.Common.{sym, ◌∙◌, ap, Some}
use Rattle.std.proofs.lemmas.Bool.{eq-eqb, eqb-true}
use Rattle.hq_ordercheck.proofs.Options.{none_some, some_same}
use Rattle.hq_certcheck.proofs.citing.says.Goals as goal

pub returns-in-Some : goal.returns-in-Some
returns-in-Some c = (
  λ t. (c.follower.ensures c.args.r).0 (c.in-Some.is ∙ ap Some (eqb-true c.in-Some.number c.args.r t)),
  λ s. eq-eqb c.in-Some.number c.args.r (some_same c.in-Some.number c.args.r (sym c.in-Some.is ∙ (c.follower.ensures c.args.r).1 s)),
)

pub returns-in-None : goal.returns-in-None
returns-in-None c = (
  λ t. let never : ⊥ = cc in absurd never,
  λ s. absurd (none_some c.args.r (sym c.in-None.is ∙ (c.follower.ensures c.args.r).1 s)),
)
