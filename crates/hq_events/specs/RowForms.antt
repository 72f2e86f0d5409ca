-- How the code holds what a packet has read and stored.
use Rattle.std.specs.Prelude.{◌≡◌, ℕ, ◌⊎◌, ◌++◌, ◌==◌, List, Option, Some, true, map, length, replicate, count_by}
use Rattle.std.specs.Prelude.{is_some, if◌then◌else◌}
use Rattle.hq_events.specs.Rows.{StoresValue}
use Rattle.hq_events.specs.declared.rows.Reads.TheInside as reads
use Rattle.hq_events.specs.declared.rows.Stores.TheInside as stores

-- the bytes that were read at once, or else the entries
abbrev pub entries_read : reads.Inside → List (Option ℕ)
entries_read r = map Some r.whole.items ++ r.bytes.items

-- Bytes are held in one form alone.
pub record AreReads (r : reads.Inside) : Type 0 where
  pub count : r.count ≡ count_by is_some r.bytes.items
  pub one : (length r.whole.items ≡ 0) ⊎ (length r.bytes.items ≡ 0)

-- where no byte is marked by itself, all are stored
abbrev pub value_of_stores : stores.Inside → StoresValue
value_of_stores s = record {
  bytes = s.bytes.items;
  stored = if length s.stored.items == 0 then replicate
      (length s.bytes.items) true else s.stored.items;
}

-- Each byte is marked, or none is.
pub record AreStoresOf (s : stores.Inside) : Type 0 where
  pub count : s.count ≡ count_by (λ b. b) s.stored.items
  pub one : (length s.stored.items ≡ 0) ⊎ (length s.stored.items ≡ length s.bytes.items)
