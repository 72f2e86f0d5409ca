use Rattle.std.proofs.Common.{◌∙◌, sym, subst, List, ℕ}
use Rattle.std.specs.Prelude.{Contains, IsTrue, ◌↔◌}
use Rattle.hq_tables.proofs.Found.{name_there, name_tested}
use Rattle.hq_tables.proofs.arguments.Arguments.has_name.Goals as goal

pub returns : goal.returns
returns c =
    let keys : List (List ℕ) = c.self.inside.names.keys in
    let found : IsTrue c.contains.result ↔ Contains keys c.args.name =
    (λ t. name_there keys c.args.name (sym c.contains.ensures ∙ t), λ h. c.contains.ensures ∙ name_tested keys c.args.name h) in
    rw (← c.self.view_is) (subst (λ (names : List (List ℕ)). IsTrue c.contains.result ↔ Contains names c.args.name) c.self.invariant.0 found)
