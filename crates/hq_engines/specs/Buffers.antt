-- The buffers' lines.
use Rattle.std.specs.Prelude.{ℕ, List, [], ◌∷◌, ◌++◌, take, drop, length, codes}
use Rattle.hex.specs.Hex.{encode_lower}
use Rattle.hq_tables.specs.Blocks.{Bytes}
use Rattle.hq_status.specs.Reports.{with_feed}

-- a buffer's name and its bytes as hexadecimal digits
abbrev pub buffer_line : List ℕ → List ℕ → List ℕ
buffer_line name bytes = with_feed (codes "buffer " ++ name ++ codes " " ++ encode_lower bytes)

-- the lines of buffers that lie in memory end to end
abbrev pub buffers_text : List Bytes → List ℕ → List ℕ
buffers_text [] memory = []
buffers_text (b ∷ bs) memory = buffer_line b.name (take (length b.bytes) memory) ++ buffers_text bs
    (drop (length b.bytes) memory)
