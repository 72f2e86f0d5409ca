-- The kernel of an object and the block of an address.
use Rattle.std.proofs.Common.{arith, get_or, length, ◌++◌, slice_get, ◌≡◌, ℕ, ◌==◌, Bool, true, false, cond, List, [], ◌∷◌, Option, Some, None, is_some, refl, sym, ap, ◌∙◌, ◌⊎◌, inl, inr}
use Rattle.std.proofs.Math.Path.{fun_ext}
use Rattle.std.proofs.lemmas.Bool.Decides.{nat_tests}
use Rattle.std.proofs.lemmas.List.Folds.{find_at}
use Rattle.std.proofs.lemmas.Option.{slice_get-map, slice_get_past, slice_get_read}
use Rattle.std.proofs.lemmas.List.{length-map, map-append}
use Rattle.std.specs.List.{list_any, position_or_len}
use Rattle.indexmap.specs.IndexSet.{insert_key}
use Rattle.std.specs.Prelude.{position, map, find, IsNone, IsSome, IsTrue, not}
use Rattle.std.specs.Option.{option_map}
use Rattle.hq_tables.specs.declared.rows.Block.{Block}
use Rattle.hq_tables.specs.Blocks.{Bytes}
use Rattle.hq_tables.specs.Blocks.{bytes_of, blocks_of}
use Rattle.hq_tables.specs.Tables.{addresses_of}
use Rattle.hq_text.proofs.Cuts.{first_place, no_place}
use Rattle.hq_tables.proofs.Found.{position-map}

some_mapped : {X Y : Type 0} (f : X → Y) (o : Option X) → is_some (option_map f o) ≡ is_some o
some_mapped f None = refl
some_mapped f (Some x) = refl

by_some : (b : Bool) → ¬ (b ≡ false) → b ≡ true
by_some true h = refl
by_some false h = absurd (h refl)

turned : (a b : ℕ) → (a == b) ≡ (b == a)
turned a b = grind (arith, nat_tests)

place_by_address : (rows : List Bytes) (address : ℕ) → position (λ x. x.at == address) rows ≡ position (λ a. address == a) (addresses_of rows)
place_by_address rows address = position-map (λ x. x.at) (λ a. a == address) rows ∙ ap (λ q. position q (addresses_of rows)) (fun_ext (λ a. turned a address))

-- the block that stands at the place of its address
pub block_placed : (blocks : List Block) (address k : ℕ) (b : Block) → Some k ≡ position (λ a. address == a) (addresses_of (blocks_of blocks)) → b ≡ get_or blocks k b
    → Some (bytes_of b) ≡ find (λ x. x.at == address) (blocks_of blocks)
block_placed blocks address k b place is =
    let rows : List Bytes = blocks_of blocks in
    let p : Bytes → Bool = λ x. x.at == address in
    let first = first_place p rows k (place_by_address rows address ∙ sym place) in
    let there : slice_get blocks k ≡ Some b = slice_get_read blocks (length blocks) k b refl (omega (arith, first.1, length-map blocks bytes_of)) is in
    sym (find_at p rows ∙ ap (slice_get rows) first.0 ∙ slice_get-map bytes_of blocks k ∙ ap (option_map bytes_of) there)

-- no block stands at an address that has no place
pub block_missing : (rows : List Bytes) (address : ℕ) → None ≡ position (λ a. address == a) (addresses_of rows) → None ≡ find (λ x. x.at == address) rows
block_missing rows address none =
    let p : Bytes → Bool = λ x. x.at == address in
    sym (find_at p rows ∙ slice_get_past rows (position_or_len p rows) (no_place p rows (place_by_address rows address ∙ sym none)))

-- the keys of rows, where one is added that isn't among them
pub one_key_more : {X Y : Type 0} (f : X → Y) (eq : Y → Y → Bool) (xs : List X) (x : X) (keys new : List Y) → keys ≡ map f xs → new ≡ insert_key eq keys (f x) → list_any (eq (f x)) (map f xs) ≡ false
    → new ≡ map f (xs ++ x ∷ [])
one_key_more f eq xs x keys new are is absent =
    let none : list_any (eq (f x)) keys ≡ false = ap (list_any (eq (f x))) are ∙ absent in
    is ∙ ap (λ b. cond b keys (keys ++ f x ∷ [])) none ∙ ap (λ ks. ks ++ f x ∷ []) are ∙ sym (map-append f xs (x ∷ []))

-- what is found by reference, and what is found
pub same_some : {R X : Type 0} (v : R → X) (r : Option R) (o : Option X) → option_map v r ≡ o → is_some r ≡ is_some o
same_some v r o is = sym (some_mapped v r) ∙ ap is_some is

pub found_some : {R X : Type 0} (v : R → X) (r : Option R) (o : Option X) → option_map v r ≡ o → ¬ IsNone o → IsSome r
found_some v r o is some = by_some (is_some r) (λ e. some (sym (same_some v r o is) ∙ e))

pub either_left : {A : Type 0} (b n : Bool) → n ≡ true → b ≡ not n → (IsTrue n → (b ≡ false) ⊎ A) × ((b ≡ false) ⊎ A → IsTrue n)
either_left b n t e = (λ _. inl (e ∙ ap not t), λ _. t)

pub either_right : (a b m n : Bool) → m ≡ false → a ≡ not m → b ≡ not n → (IsTrue n → (a ≡ false) ⊎ (b ≡ false)) × ((a ≡ false) ⊎ (b ≡ false) → IsTrue n)
either_right a b m true f d e = (λ _. inr e, λ _. refl)
either_right a b m false f d e = (λ t. absurd cc, λ h. elim h [ inl x ↦ absurd (let y : a ≡ true = d ∙ ap not f in cc) | inr x ↦ absurd cc ])
