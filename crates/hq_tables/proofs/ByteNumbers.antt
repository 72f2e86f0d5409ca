-- A range within a buffer is a row of byte numbers, each below the number of bytes.
use Rattle.std.proofs.Common.{◌≡◌, ℕ, zero, suc, ◌+◌, ◌-◌, ◌<◌, ◌≤◌, inl, inr, Bool, true, false, cond, ◌==◌, List, [], ◌∷◌, ◌++◌, length, Some, None, refl, sym, ap, ◌∙◌, subst, arith, slice_index, slice_index_or, All, Any, map, unwrap_or, IfSome, nat_lt, position, length-append, true≢false}
use Rattle.std.specs.List.{flat_map, position_or_len, range_with_len}
use Rattle.std.proofs.lemmas.Bool.{cases_eq, cases_lt, cond-true, cond-false, eq-eqb, eqb-true, ne_eqb, ltb-true}
use Rattle.std.proofs.lemmas.List.{get_or_append_left, get_or_default}
use Rattle.std.proofs.lemmas.List.Elements.{All-nil, All-append}
use Rattle.std.proofs.lemmas.List.Quantifiers.{Any-push}
use Rattle.std.proofs.lemmas.List.FromFn.{length-range_with_len, get_or-range_with_len}
use Rattle.std.proofs.lemmas.List.Sums.{fails_before_first, sum_by-cons}
use Rattle.hq_footprint.specs.declared.footprint.Range.{Range}
use Rattle.hq_footprint.specs.Bytes.{bytes_of, read_entries, written_bytes, ranges_of, IsWithin, IsOutside}
use Rattle.hq_footprint.specs.declared.footprint.Footprint.{Footprint}
use Rattle.hq_footprint.specs.Table.{range, nowhere}
use Rattle.hq_tables.specs.Blocks.{Bytes}
use Rattle.hq_tables.specs.Tables.{range_of, addresses, byte_number, range_in_bytes, in_bytes, total_of}

-- ---- first places

-- the first place that passes isn't behind one that does
pub first_at_most : {X : Type 0} (test : X → Bool) (xs : List X) (k : ℕ) (d : X) → test (slice_index_or xs k d) ≡ true → position_or_len test xs ≤ k
first_at_most test xs k d passes = elim (cases_lt k (position_or_len test xs)) [
  | inl low ↦ absurd (true≢false (sym passes ∙ fails_before_first test xs k d low))
  | inr high ↦ high
]

-- a place is below the length
pub position_low : {X : Type 0} (test : X → Bool) (xs : List X) → IfSome (position test xs) (λ k. k < length xs)
position_low {X} test xs = go (nat_lt (position_or_len test xs) (length xs)) (ltb-true _ _)
  where
    go : (b : Bool) → (b ≡ true → position_or_len test xs < length xs) → IfSome (cond b (Some (position_or_len test xs)) None) (λ k. k < length xs)
    go true h = h refl
    go false h = tt

place_at_most : {X : Type 0} (test : X → Bool) (xs : List X) → unwrap_or (position test xs) 0 ≤ position_or_len test xs
place_at_most test xs = go (nat_lt (position_or_len test xs) (length xs))
  where
    go : (b : Bool) → unwrap_or (cond b (Some (position_or_len test xs)) None) 0 ≤ position_or_len test xs
    go true = omega arith
    go false = omega arith

-- ---- bytes of buffers

index_after : (xs ys : List ℕ) (k d : ℕ) → slice_index_or (xs ++ ys) (length xs + k) d ≡ slice_index_or ys k d
index_after [] ys k d = ap (λ j. slice_index_or ys j d) (omega arith)
index_after (x ∷ xs) ys k d = let e : suc (length xs) + k ≡ suc (length xs + k) = omega arith in rw e (index_after xs ys k d)

-- a place of the range's first byte, with room for the range behind it
record Room (buffers : List Bytes) (r : Range) : Type 0 where
  pub k : ℕ
  pub here : slice_index (addresses buffers) k ≡ r.at
  pub fits : k + r.len ≤ total_of buffers

room : (buffers : List Bytes) (r : Range) → 0 < r.len → Any (IsWithin r) (map range_of buffers) → Room buffers r
room [] r some (j, o, l, e, w) = absurd (omega arith)
room (b ∷ bs) r some (zero, o, l, e, w) =
    let v : IsWithin r (range_of b) = subst (IsWithin r) (sym e) w in
    let low : r.at - b.at < length b.bytes = omega (arith, v.begins, v.ends) in
    let sum : b.at + (r.at - b.at) ≡ r.at = omega (arith, v.begins) in
    record {
      k = r.at - b.at;
      here = get_or_append_left (bytes_of (range_of b)) (addresses bs) 0 (r.at - b.at) (omega (arith, length-range_with_len b.at (length b.bytes))) ∙ get_or-range_with_len b.at (length b.bytes) (r.at - b.at) 0 low ∙ sum;
      fits = omega (arith, v.begins, v.ends, sum_by-cons (λ (c : Bytes). length c.bytes) b bs);
    }
room (b ∷ bs) r some (suc j, o, l, e, w) =
    let rest = room bs r some (j, o, omega arith, e, w) in
    record {
      k = length (bytes_of (range_of b)) + rest.k;
      here = index_after (bytes_of (range_of b)) (addresses bs) rest.k 0 ∙ rest.here;
      fits = omega (arith, rest.fits, length-range_with_len b.at (length b.bytes), sum_by-cons (λ (c : Bytes). length c.bytes) b bs);
    }

row_low : (at len high : ℕ) → at + len ≤ high → All (λ b. b < high) (range_with_len at len)
row_low at len high l k d below =
    let low : k < len = omega (arith, length-range_with_len at len) in
    omega (arith, get_or-range_with_len at len k d low)

begins_low : (buffers : List Bytes) (r : Range) → 0 < r.len → Any (IsWithin r) (map range_of buffers) → unwrap_or (byte_number buffers r.at) 0 + r.len ≤ total_of buffers
begins_low buffers r some within =
    let found = room buffers r some within in
    omega (arith, found.fits, place_at_most (λ a. a == r.at) (addresses buffers), first_at_most (λ a. a == r.at) (addresses buffers) found.k 0 (eq-eqb (slice_index (addresses buffers) found.k) r.at found.here))

-- the byte numbers of a range that isn't outside the buffers
pub numbers_low : (buffers : List Bytes) (r : Range) → ¬ IsOutside (map range_of buffers) r → All (λ b. b < total_of buffers) (bytes_of (range_in_bytes buffers r))
numbers_low buffers r inside = elim (cases_eq r.len 0) [
  | inl none ↦ subst (λ (o : Range). All (λ b. b < total_of buffers) (bytes_of o)) (sym (cond-true (r.len == 0) nowhere there (eq-eqb r.len 0 none))) (All-nil (λ b. b < total_of buffers))
  | inr some ↦ subst (λ (o : Range). All (λ b. b < total_of buffers) (bytes_of o)) (sym (cond-false (r.len == 0) nowhere there (ne_eqb r.len 0 some))) (row_low (unwrap_or (byte_number buffers r.at) 0) r.len (total_of buffers) (ends (omega arith)))
]
  where
    there : Range
    there = range (unwrap_or (byte_number buffers r.at) 0) r.len

    ends : 0 < r.len → unwrap_or (byte_number buffers r.at) 0 + r.len ≤ total_of buffers
    ends some = elim (cases_lt (total_of buffers) (unwrap_or (byte_number buffers r.at) 0 + r.len)) [
      | inl over ↦ absurd (inside (record { some_byte = some; in_none = λ within. let low = begins_low buffers r some within in omega arith }))
      | inr fits ↦ fits
    ]

-- it is as long as the range
length_of : (buffers : List Bytes) (r : Range) (b : Bool) → (b ≡ true → r.len ≡ 0) → (cond b nowhere (range (unwrap_or (byte_number buffers r.at) 0) r.len)).len ≡ r.len
length_of buffers r true none = sym (none refl)
length_of buffers r false none = refl

pub length_kept : (buffers : List Bytes) (r : Range) → (range_in_bytes buffers r).len ≡ r.len
length_kept buffers r = length_of buffers r (r.len == 0) (eqb-true r.len 0)

pub lengths_kept : (buffers : List Bytes) (rs : List Range) → map (λ r. r.len) (map (range_in_bytes buffers) rs) ≡ map (λ r. r.len) rs
lengths_kept buffers [] = refl
lengths_kept buffers (r ∷ rs) = let e = length_kept buffers r in let f = lengths_kept buffers rs in cc

numbers_counted : (buffers : List Bytes) (r : Range) → length (bytes_of (range_in_bytes buffers r)) ≡ length (bytes_of r)
numbers_counted buffers r =
    length-range_with_len (range_in_bytes buffers r).at (range_in_bytes buffers r).len ∙ length_kept buffers r ∙ sym (length-range_with_len r.at r.len)

-- ---- footprints

entries_low : (buffers : List Bytes) (rs : List Range) → All (λ r. ¬ IsOutside (map range_of buffers) r) rs → All (λ b. b < total_of buffers) (flat_map bytes_of (map (range_in_bytes buffers) rs))
entries_low buffers [] inside = All-nil (λ b. b < total_of buffers)
entries_low buffers (r ∷ rs) inside =
    All-append (λ b. b < total_of buffers) (bytes_of (range_in_bytes buffers r)) (flat_map bytes_of (map (range_in_bytes buffers) rs))
    (numbers_low buffers r (inside 0 r (omega arith))) (entries_low buffers rs (λ k d l. inside (suc k) d (omega arith)))

-- the bytes read of a footprint of which no range is outside
pub reads_low : (buffers : List Bytes) (foot : Footprint) → ¬ Any (IsOutside (map range_of buffers)) (ranges_of foot) → All (λ b. b < total_of buffers) (read_entries (in_bytes buffers foot))
reads_low buffers foot none = entries_low buffers foot.reads (λ k d l outside. none (k, slice_index_or foot.reads k d, omega (arith, length-append foot.reads (foot.write ∷ [])), get_or_append_left foot.reads (foot.write ∷ []) (slice_index_or foot.reads k d) k l ∙ get_or_default foot.reads k (slice_index_or foot.reads k d) d l, outside))

-- and those written
pub writes_low : (buffers : List Bytes) (foot : Footprint) → ¬ Any (IsOutside (map range_of buffers)) (ranges_of foot) → All (λ b. b < total_of buffers) (written_bytes (in_bytes buffers foot))
writes_low buffers foot none = numbers_low buffers foot.write (λ outside. none (Any-push (IsOutside (map range_of buffers)) foot.reads foot.write outside))

entries_kept : (buffers : List Bytes) (rs : List Range) → length (flat_map bytes_of (map (range_in_bytes buffers) rs)) ≡ length (flat_map bytes_of rs)
entries_kept buffers [] = refl
entries_kept buffers (r ∷ rs) =
    omega (arith, length-append (bytes_of (range_in_bytes buffers r)) (flat_map bytes_of (map (range_in_bytes buffers) rs)), length-append (bytes_of r) (flat_map bytes_of rs), numbers_counted buffers r, entries_kept buffers rs)

-- there are as many of each as in addresses
pub reads_counted : (buffers : List Bytes) (foot : Footprint) → length (read_entries (in_bytes buffers foot)) ≡ length (read_entries foot)
reads_counted buffers foot = entries_kept buffers foot.reads

pub writes_counted : (buffers : List Bytes) (foot : Footprint) → length (written_bytes (in_bytes buffers foot)) ≡ length (written_bytes foot)
writes_counted buffers foot = numbers_counted buffers foot.write
