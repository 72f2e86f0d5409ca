-- Blocks at one place of two tables.
use Rattle.std.proofs.Common.{◌≡◌, ℕ, ◌<◌, ◌≤◌, Bool, false, List, length, Some, slice_get, IsTrue, ◌↔◌, refl, sym, ap, ◌∙◌, arith, true≢false}
use Rattle.std.specs.Prelude.{slice_index_or}
use Rattle.std.specs.Option.{option_map}
use Rattle.std.proofs.lemmas.List.{length-map}
use Rattle.std.proofs.lemmas.Option.{slice_get-map, slice_get_read}
use Rattle.hq_signals.proofs.Places.{AgreeBelow, same_to_the_end}
use Rattle.hq_tables.specs.Blocks.{bytes_of, blocks_of}
use Rattle.hq_tables.specs.declared.rows.Block.{Block}

block_at : (xs : List Block) (i : ℕ) (x : Block) → i < length xs → x ≡ slice_index_or xs i x → slice_get (blocks_of xs) i ≡ Some (bytes_of x)
block_at xs i x lt is = slice_get-map bytes_of xs i ∙ ap (option_map bytes_of) (slice_get_read xs (length xs) i x refl lt is)

-- what a test of the blocks at one place says of the tables there
pub places_tested : (xs ys : List Block) (i : ℕ) (x y : Block) (r : Bool) → i < length xs → i < length ys → x ≡ slice_index_or xs i x → y ≡ slice_index_or ys i y → IsTrue r ↔ (bytes_of x ≡ bytes_of y) → IsTrue r ↔ (slice_get (blocks_of xs) i ≡ slice_get (blocks_of ys) i)
places_tested xs ys i x y r here there first second tells =
    let a = block_at xs i x here first in
    let b = block_at ys i y there second in (
      λ e. a ∙ ap (λ t. Some t) (tells.0 e) ∙ sym b,
      λ e. let both : Some (bytes_of x) ≡ Some (bytes_of y) = sym a ∙ e ∙ b in tells.1 cc,
    )

-- tables that differ at one place differ
pub apart_there : (xs ys : List Block) (i : ℕ) (r : Bool) → IsTrue r ↔ (slice_get (blocks_of xs) i ≡ slice_get (blocks_of ys) i) → r ≡ false → IsTrue false ↔ (blocks_of xs ≡ blocks_of ys)
apart_there xs ys i r tells no_match = (λ e. absurd (true≢false (sym e)), λ e. sym no_match ∙ tells.1 (ap (λ bs. slice_get bs i) e))

pub blocks_to_the_end : (xs ys : List Block) (i : ℕ) → length xs ≡ length ys → length xs ≤ i → AgreeBelow i (blocks_of xs) (blocks_of ys) → blocks_of xs ≡ blocks_of ys
blocks_to_the_end xs ys i e le agree =
    let first = length-map xs bytes_of in
    let second = length-map ys bytes_of in
    same_to_the_end (blocks_of xs) (blocks_of ys) i (omega arith) (omega arith) agree
