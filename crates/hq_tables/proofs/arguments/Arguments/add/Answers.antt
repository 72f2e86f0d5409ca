use Rattle.std.proofs.Common.{◌≡◌, ◌∙◌, ◌==◌, sym, ap, ℕ, List, [], ◌∷◌, ◌++◌, false, refl}
use Rattle.std.proofs.lemmas.List.{map-append}
use Rattle.std.specs.List.{list_any}
use Rattle.std.specs.Str.{bytes_eq}
use Rattle.hq_tables.specs.Blocks.{Bytes, Name, bytes_of, blocks_of}
use Rattle.hq_tables.specs.Tables.{names_of, addresses_of}
use Rattle.hq_tables.proofs.Found.{name_there, row_numbered, unless}
use Rattle.hq_tables.proofs.RowLaws.{one_key_more}
use Rattle.hq_tables.proofs.arguments.Arguments.add.Goals as goal

pub invariant_of-self-2 : goal.invariant_of-self-2
invariant_of-self-2 c =
    let rows : List Bytes = blocks_of c.self.inside.rows.items in
    let b : Bytes = bytes_of c.args.block in
    let name : Name = c.args.block.name in
    let at : ℕ = c.args.block.at in
    let grown : rows ++ b ∷ [] ≡ blocks_of c.push.new.self.items = sym (ap blocks_of c.in_ok-push.ensures.items ∙ map-append bytes_of c.self.inside.rows.items (c.args.block ∷ [])) in
    let unnamed : list_any (bytes_eq name) (names_of rows) ≡ false = unless (list_any (bytes_eq name) (names_of rows)) (λ t. c.requires.name (rw (← c.self.view_is) (name_there (names_of rows) name t))) in
    let unplaced : list_any (λ k. at == k) (addresses_of rows) ≡ false = unless (list_any (λ k. at == k) (addresses_of rows)) (λ t. c.requires.address (rw (← c.self.view_is) ((row_numbered (λ x. x.at) rows at _ refl).0 t))) in (
      one_key_more (λ x. x.name) bytes_eq rows b c.reserve.new.self.keys c.insert.new.self.keys (c.reserve.ensures.keys ∙ c.self.invariant.0) c.in_ok-insert.ensures.keys unnamed ∙ ap names_of grown,
      one_key_more (λ x. x.at) (λ n k. n == k) rows b c.reserve-2.new.self.keys c.insert-2.new.self.keys (c.reserve-2.ensures.keys ∙ c.self.invariant.1) c.in_ok-insert-2.ensures.keys unplaced ∙ ap addresses_of grown,
    )
