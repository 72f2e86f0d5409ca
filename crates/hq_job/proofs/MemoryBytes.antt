-- The bytes of buffers laid end to end.
use Rattle.std.proofs.Common.{◌≡◌, ℕ, ◌+◌, ◌<◌, List, [], ◌∷◌, ◌++◌, length, take, sym, ◌∙◌, ap, slice_index_or, append-nil}
use Rattle.std.specs.List.{flat_map}
use Rattle.std.proofs.lemmas.List.{take_more, map-append}
use Rattle.std.proofs.lemmas.Grind.{flat_map-append}
use Rattle.hq_tables.specs.declared.rows.Block.{Block}
use Rattle.hq_tables.specs.Blocks.{bytes_of, blocks_of}
use Rattle.hq_tables.specs.Blocks.{Bytes}

abbrev laid : List Bytes → List ℕ
laid blocks = flat_map (λ b. b.bytes) blocks

-- with one buffer more
pub bytes_next : (buffers : List Block) (i : ℕ) (b : Block) → i < length buffers → b ≡ slice_index_or buffers i b → flat_map (λ b. b.bytes) (blocks_of (take (i + 1) buffers)) ≡ flat_map (λ b. b.bytes) (blocks_of (take i buffers)) ++ b.bytes.items
bytes_next buffers i b l at =
    ap (λ bs. laid (blocks_of bs)) (take_more buffers i b l)
    ∙ ap laid (map-append bytes_of (take i buffers) (slice_index_or buffers i b ∷ []))
    ∙ flat_map-append (λ b. b.bytes) (blocks_of (take i buffers)) (bytes_of (slice_index_or buffers i b) ∷ [])
    ∙ ap (λ (x : Block). laid (blocks_of (take i buffers)) ++ laid (bytes_of x ∷ [])) (sym at)
    ∙ ap (λ ys. laid (blocks_of (take i buffers)) ++ ys) (append-nil b.bytes.items)
