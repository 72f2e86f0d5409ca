-- The laws of ranges and conflicts.
use Rattle.std.proofs.Common.{◌≡◌, ℕ, zero, suc, ◌+◌, ◌-◌, List, [], ◌∷◌, ◌++◌, length, map, get_or, refl, sym, ◌<◌, ap, ◌∙◌, subst, inl, inr, arith}
use Rattle.std.specs.Prelude.{Contains, All, Any}
use Rattle.std.specs.List.{range_with_len, flat_map}
use Rattle.std.proofs.lemmas.List.{get_or_append_left, get_or_push, length_push, length-append, length-map, get_or-map}
use Rattle.std.proofs.lemmas.List.Elements.{Contains-append_cases, Contains-get_or}
use Rattle.std.proofs.lemmas.List.FromFn.{length-range_with_len, get_or-range_with_len}
use Rattle.std.proofs.lemmas.List.Concat.{length-flat_map}
use Rattle.hq_footprint.specs.declared.footprint.Range.{Range}
use Rattle.hq_footprint.specs.Bytes.{bytes_of, IsInside}
use Rattle.hq_footprint.specs.Laws.{BytesCounted, BytesPlaced, BytesBounded, BytesApart, BytesShifted, EntriesCounted, WithinHasBytes, InsideHasBytes, OverlapsShare, ShareRenumbered, ConflictTurns}
use Rattle.hq_footprint.proofs.Overlaps.{byte_bounds, byte_contained, overlap_shared, shared_overlap, share_sym}

pub bytes_counted : BytesCounted
bytes_counted r = length-range_with_len r.at r.len

pub bytes_placed : BytesPlaced
bytes_placed r i d lt = get_or-range_with_len r.at r.len i d lt

pub bytes_bounded : BytesBounded
bytes_bounded r b = (λ h. let k = byte_bounds r b h in (k.low, k.high), λ (low, high). byte_contained r b low high)

pub bytes_apart : BytesApart
bytes_apart r i j d below lt same =
    let e : length (bytes_of r) ≡ r.len = bytes_counted r in
    let x : get_or (bytes_of r) i d ≡ r.at + i = bytes_placed r i d (omega arith) in
    let y : get_or (bytes_of r) j d ≡ r.at + j = bytes_placed r j d (omega arith) in
    omega (arith, x, y, same)

shifted : (at k n : ℕ) → range_with_len (at + k) n ≡ map (λ b. b + k) (range_with_len at n)
shifted at k zero = refl
shifted at k (suc n) =
    let e : at + k + 1 ≡ at + 1 + k = omega arith in
    ap (λ (xs : List ℕ). (at + k) ∷ xs) (ap (λ (m : ℕ). range_with_len m n) e ∙ shifted (at + 1) k n)

pub bytes_shifted : BytesShifted
bytes_shifted r k = shifted r.at k r.len

pub entries_counted : EntriesCounted
entries_counted foot = length-flat_map bytes_of foot.reads ∙ simp length-range_with_len

pub within_has_bytes : WithinHasBytes
within_has_bytes r outer some = (
  λ w b h. let k = byte_bounds r b h in byte_contained outer b (omega (arith, w.begins, k.low)) (omega (arith, w.ends, k.high)),
  λ all.
      let first = byte_bounds outer r.at (all r.at (byte_contained r r.at (omega arith) (omega arith))) in
      let last = byte_bounds outer (r.at + r.len - 1) (all (r.at + r.len - 1) (byte_contained r (r.at + r.len - 1) (omega arith) (omega arith))) in
      record { begins = first.low; ends = omega (arith, last.high) },
)

-- the range that a byte of ranges laid end to end is of
range_of_byte : (rs : List Range) (b : ℕ) → Contains (flat_map bytes_of rs) b → Any (λ r. Contains (bytes_of r) b) rs
range_of_byte [] b (k, lt, e) = absurd (omega arith)
range_of_byte (q ∷ rs) b h = elim (Contains-append_cases (bytes_of q) (flat_map bytes_of rs) b h) [
  | inl here ↦ (0, q, omega arith, refl, here)
  | inr there ↦ let (k, r, lt, e, x) = range_of_byte rs b there in (suc k, r, omega arith, e, x)
]

buffer_of_byte : (buffers : List Range) (r : Range) (b : ℕ) → IsInside buffers r → Contains (bytes_of r) b → Any (λ buffer. Contains (bytes_of buffer) b) buffers
buffer_of_byte buffers r b inside' h =
    let k = byte_bounds r b h in
    let (i, buffer, lt, e, w) = inside'.within (omega (arith, k.low, k.high)) in
    (i, buffer, lt, e, byte_contained buffer b (omega (arith, w.begins, k.low)) (omega (arith, w.ends, k.high)))

buffer_of_some : (buffers rs : List Range) (b : ℕ) → All (IsInside buffers) rs → Any (λ r. Contains (bytes_of r) b) rs → Any (λ buffer. Contains (bytes_of buffer) b) buffers
buffer_of_some buffers rs b all (k, r, lt, e, h) = buffer_of_byte buffers r b (subst (IsInside buffers) e (all k r lt)) h

all_before : (P : Range → Type 0) (xs ys : List Range) → All P (xs ++ ys) → All P xs
all_before P xs ys all k d lt = subst P (get_or_append_left xs ys d k lt) (all k d (omega (arith, length-append xs ys)))

all_after : (P : Range → Type 0) (xs : List Range) (y : Range) → All P (xs ++ y ∷ []) → P y
all_after P xs y all = subst P (get_or_push xs y y (length xs) refl) (all (length xs) y (omega (arith, length_push xs y)))

pub inside_has_bytes : InsideHasBytes
inside_has_bytes foot buffers all b (inl read) = buffer_of_some buffers foot.reads b (all_before (IsInside buffers) foot.reads (foot.write ∷ []) all) (range_of_byte foot.reads b read)
inside_has_bytes foot buffers all b (inr written) = buffer_of_byte buffers foot.write b (all_after (IsInside buffers) foot.reads foot.write all) written

pub overlaps_share : OverlapsShare
overlaps_share r s = (overlap_shared r s, shared_overlap r s)

contains_renumbered : (f : ℕ → ℕ) (xs : List ℕ) (b : ℕ) → Contains xs b → Contains (map f xs) (f b)
contains_renumbered f xs b (k, lt, e) = (k, subst (λ (n : ℕ). k < n) (sym (length-map xs f)) lt, get_or-map f xs k b (f b) lt ∙ ap f e)

-- the element that a renumbered one comes from
pub record IsFrom (f : ℕ → ℕ) (xs : List ℕ) (c a : ℕ) : Type 0 where
  pub contained : Contains xs a
  pub number : f a ≡ c

renumbered_from : (f : ℕ → ℕ) (xs : List ℕ) (c : ℕ) → Contains (map f xs) c → (a : ℕ) × IsFrom f xs c a
renumbered_from f xs c (k, lt, e) =
    let short : k < length xs = subst (λ (n : ℕ). k < n) (length-map xs f) lt in
    (get_or xs k 0, record { contained = Contains-get_or xs k 0 short; number = sym (get_or-map f xs k 0 c short) ∙ e })

pub share_renumbered : ShareRenumbered
share_renumbered f xs ys own = (
  λ (c, x, y).
      let (a, p) = renumbered_from f xs c x in
      let (b, q) = renumbered_from f ys c y in
      let same : a ≡ b = own a b p.contained q.contained (p.number ∙ sym q.number) in
      (a, p.contained, subst (Contains ys) (sym same) q.contained),
  λ (b, x, y). (f b, contains_renumbered f xs b x, contains_renumbered f ys b y),
)

pub conflict_turns : ConflictTurns
conflict_turns first second (inl wr) = inr (inr (share_sym _ _ wr))
conflict_turns first second (inr (inl ww)) = inr (inl (share_sym _ _ ww))
conflict_turns first second (inr (inr rw')) = inl (share_sym _ _ rw')
