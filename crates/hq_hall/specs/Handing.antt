-- The pieces that a packet is handed.
use Rattle.std.specs.Prelude.{ℕ, List, [], ◌∷◌, ◌++◌, take, drop, unwrap_or, slice_get, slice_index_or}
use Rattle.std.specs.Option.{option_map}
use Rattle.hq_footprint.specs.declared.footprint.Range.{Range}
use Rattle.hq_footprint.specs.declared.footprint.Footprint.{Footprint}
use Rattle.hq_footprint.specs.declared.footprint.Work.{Work}
use Rattle.hq_footprint.specs.Counts.{reads_of, writes_of}
use Rattle.hq_footprint.specs.Table.{nowhere, no_work}
use Rattle.hq_tables.specs.declared.rows.Placed.{Placed}
use Rattle.hq_ledger.specs.Pieces.{Part}

-- what packet p of these does, in addresses, and its footprint in byte numbers
abbrev pub work_of : List Placed → ℕ → Work
work_of packets p = unwrap_or (option_map (λ placed. placed.work) (slice_get packets p)) no_work

-- the footprint of packet p of these, in byte numbers; an empty one, where there is no such packet
abbrev pub foot_of : List Placed → ℕ → Footprint
foot_of packets p = unwrap_or (option_map (λ placed. placed.bytes) (slice_get packets p)) no_work.foot

-- the first of the ranges that the work reads, in addresses
abbrev pub first_read : Work → Range
first_read work = slice_index_or work.foot.reads 0 nowhere

-- the second of the ranges that the work reads, in addresses
abbrev pub second_read : Work → Range
second_read work = slice_index_or work.foot.reads 1 nowhere

-- the piece in this place of packet p, of this range
abbrev pub piece : ℕ → ℕ → Range → List ℕ → Part
piece p place range bytes = record { packet = p; place = place; at = range.at; bytes = bytes }

-- the pieces that it reads, of which these are the bytes, end to end
abbrev pub read_pieces : ℕ → Work → List ℕ → List Part
read_pieces p work read =
    take (reads_of work.task)
    (piece p 0 (first_read work) (take (first_read work).len read) ∷ piece p 1 (second_read work)
    (drop (first_read work).len read) ∷ [])

-- and that which it writes, of which these are the bytes
abbrev pub write_pieces : ℕ → Work → List ℕ → List Part
write_pieces p work written = take (writes_of work.task) (piece p (reads_of work.task) work.foot.write written ∷ [])

-- The pieces of a packet with this work: those of the ranges that its task reads, with these bytes, end to end; and
-- behind them that of the range that it writes, with these.
abbrev pub pieces_of : ℕ → Work → List ℕ → List ℕ → List Part
pieces_of p work read written = read_pieces p work read ++ write_pieces p work written
