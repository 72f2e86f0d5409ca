use Rattle.std.proofs.Common.{rules, not, ◌==◌}
use Rattle.std.proofs.lemmas.Fn.{filter_same}
use Rattle.std.proofs.lemmas.List.Kept.{AllPairs-filter}
use Rattle.hq_ledger.specs.Grants.{Clash}
use Rattle.hq_ledger.proofs.grants.Grants.home.Goals as goal

pub invariant_of-self : goal.invariant_of-self
invariant_of-self c =
    rw (filter_same _ (λ grant. not (grant.packet == c.args.packet)) _ (λ x b f' k. search rules) _ _ c.retain.ensures.filtered)
    (AllPairs-filter (λ a b. ¬ Clash a b) _ _ c.self.invariant)

pub returns-clause-home : goal.returns-clause-home
returns-clause-home c = rw (← c.self.view_is) (filter_same _ _ _ (λ x b f' k. search rules) _ _ c.retain.ensures.filtered)
