use Rattle.std.proofs.Common.{◌≡◌, refl, sym, ap, ◌∙◌, inl, inr, ℕ, ap, List}
use Rattle.std.specs.Prelude.{map, Some, position}
use Rattle.std.specs.Str.{bytes_eq}
use Rattle.hq_tables.specs.TablesView.{tables_of}
use Rattle.hq_tables.specs.Tables.{queue_names, tests, NoneApplies}
use Rattle.hq_lines.specs.Meaning as says
use Rattle.hq_tables.proofs.Found.{no_place, has_place}
use Rattle.hq_tables.proofs.tables.Tables.turn_to.Goals as goal

pub returns-in_default : goal.returns-in_default
returns-in_default c =
    let names : List (List ℕ) = queue_names (tables_of c.args.self.now) in
    let number : c.queue_number.result ≡ position (bytes_eq c.args.name) names = c.queue_number.ensures ∙ ap (λ qs. position (bytes_eq c.args.name) (map (λ q. q.name) qs)) c.deref.ensures.value in
    (refl, inr (inr (λ plain. cc, inl (no_place names c.args.name (sym number ∙ c.in_default.is), refl))))

pub returns : goal.returns
returns c =
    let names : List (List ℕ) = queue_names (tables_of c.args.self.now) in
    let number : c.queue_number.result ≡ position (bytes_eq c.args.name) names = c.queue_number.ensures ∙ ap (λ qs. position (bytes_eq c.args.name) (map (λ q. q.name) qs)) c.deref.ensures.value in
    let there : position (bytes_eq c.args.name) names ≡ Some c.in-Some.queue = sym number ∙ c.in-Some.is in
    let none : NoneApplies (tests (tables_of c.args.self.now) (says.To c.args.name)) = (λ plain. cc, (λ none. none (has_place names c.args.name c.in-Some.queue there), tt)) in
    (none, rw there refl)
