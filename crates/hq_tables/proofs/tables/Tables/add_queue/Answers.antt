use Rattle.std.proofs.Common.{rules, ◌≡◌, refl, sym, ap, ◌∙◌, inl, inr, arith, ℕ, length, is_some, true, false, ap, List}
use Rattle.std.specs.Prelude.{map, Some, position}
use Rattle.std.specs.Str.{bytes_eq}
use Rattle.hq_tables.specs.TablesView.{tables_of}
use Rattle.hq_tables.specs.Tables.{queue_names, tests, NoneApplies}
use Rattle.hq_lines.specs.Meaning as says
use Rattle.hq_tables.proofs.Found.{no_place, has_place, place_of_some, no_name_place}
use Rattle.hq_tables.proofs.tables.Tables.add_queue.Goals as goal

pub returns-then-is_some : goal.returns-then-is_some
returns-then-is_some c =
    let names : List (List ℕ) = queue_names (tables_of c.args.self.now) in
    let number : c.queue_number.result ≡ position (bytes_eq c.args.name) names = c.queue_number.ensures ∙ ap (λ qs. position (bytes_eq c.args.name) (map (λ q. q.name) qs)) c.deref.ensures.value in
    let e : is_some (position (bytes_eq c.args.name) names) ≡ true = ap is_some (sym number) ∙ sym c.is_some.ensures ∙ c.if-is_some.true in
    (refl, inr (inr (λ full. omega arith, inl (place_of_some names c.args.name e, refl))))

pub returns-in_default : goal.returns-in_default
returns-in_default c =
    let names : List (List ℕ) = queue_names (tables_of c.args.self.now) in
    let number : c.queue_number.result ≡ position (bytes_eq c.args.name) names = c.queue_number.ensures ∙ ap (λ qs. position (bytes_eq c.args.name) (map (λ q. q.name) qs)) c.deref.ensures.value in
    let e : is_some (position (bytes_eq c.args.name) names) ≡ false = ap is_some (sym number) ∙ sym c.is_some.ensures ∙ c.if-is_some.false in
    (refl, inr (inr (λ full. omega arith, inr (no_name_place names c.args.name e, inl (no_place c.args.self.now.agents.keys c.args.agent (sym c.get_index_of.ensures.index ∙ c.in_default.is), refl)))))

pub returns : goal.returns
returns c =
    let names : List (List ℕ) = queue_names (tables_of c.args.self.now) in
    let number : c.queue_number.result ≡ position (bytes_eq c.args.name) names = c.queue_number.ensures ∙ ap (λ qs. position (bytes_eq c.args.name) (map (λ q. q.name) qs)) c.deref.ensures.value in
    let e : is_some (position (bytes_eq c.args.name) names) ≡ false = ap is_some (sym number) ∙ sym c.is_some.ensures ∙ c.if-is_some.false in
    let there : position (bytes_eq c.args.agent) c.args.self.now.agents.keys ≡ Some c.in-Some.agent = sym c.get_index_of.ensures.index ∙ c.in-Some.is in
    let none : NoneApplies (tests (tables_of c.args.self.now) (says.Queue c.args.name c.args.agent c.args.size)) =
    (λ full. omega arith, (no_name_place names c.args.name e, (λ none. none (has_place c.args.self.now.agents.keys c.args.agent c.in-Some.agent there), tt))) in
    let number : c.len-number.result ≡ length c.args.self.now.queues.items = search rules in
    (none, rw (c.in_ok-push.ensures.items, there, number) refl)
