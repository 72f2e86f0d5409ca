-- Pieces that are handed out.
use Rattle.std.proofs.Common.{◌≡◌, ℕ, zero, suc, ◌+◌, ◌-◌, ◌<◌, ◌≤◌, List, [], ◌∷◌, ◌++◌, length, map, take, drop, slice_index_or, refl, sym, ap, ap₂, ◌∙◌, arith, All}
use Rattle.std.specs.List.{flat_map}
use Rattle.std.proofs.lemmas.List.{append-nil, length-map, map-append}
use Rattle.std.proofs.lemmas.List.FromFn.{length-range_with_len}
use Rattle.std.proofs.Math.Seq.{take-append_seam}
use Rattle.hq_footprint.specs.declared.footprint.Range.{Range}
use Rattle.hq_footprint.specs.declared.footprint.Work.{Work}
use Rattle.hq_footprint.specs.declared.task.Task.{Task}
use Rattle.hq_footprint.specs.declared.task.Task.TheVariants as task
use Rattle.hq_footprint.specs.Bytes.{bytes_of, read_entries}
use Rattle.hq_footprint.specs.Counts.{reads_of}
use Rattle.hq_footprint.specs.Table.{nowhere}
use Rattle.hq_tables.specs.declared.rows.Placed.{Placed}
use Rattle.hq_tables.specs.Ranges.{RangesSuit}
use Rattle.hq_ledger.specs.Pieces.{Part}
use Rattle.hq_machine.proofs.Seen.{range_below}
use Rattle.hq_hall.specs.Handing.{piece, first_read, second_read, read_pieces}

-- a task reads two ranges at most
pub reads_few : (t : Task) → reads_of t ≤ 2
reads_few (task.Fill byte) = omega arith
reads_few task.Copy = omega arith
reads_few task.Rev = omega arith
reads_few task.Xor = omega arith
reads_few task.Add = omega arith
reads_few task.Sum = omega arith
reads_few (task.Store64 word) = omega arith
reads_few (task.Count byte) = omega arith
reads_few task.Nop = omega arith

drop-seam : (xs ys : List ℕ) → drop (length xs) (xs ++ ys) ≡ ys
drop-seam [] ys = refl
drop-seam (x ∷ xs) ys = drop-seam xs ys

seen_length : (see : ℕ → ℕ) (r : Range) → length (map see (bytes_of r)) ≡ r.len
seen_length see r = length-map (bytes_of r) see ∙ length-range_with_len r.at r.len

-- the bytes seen in the first of two ranges, and in the second
pub first_seen : (see : ℕ → ℕ) (r s : Range) (n : ℕ) → r.len ≡ n → take n (map see (flat_map bytes_of (r ∷ s ∷ []))) ≡ map see (bytes_of r)
first_seen see r s n is =
    ap (λ xs. take n xs) (map-append see (bytes_of r) (flat_map bytes_of (s ∷ [])))
    ∙ ap (λ k. take k (map see (bytes_of r) ++ map see (flat_map bytes_of (s ∷ [])))) (sym is ∙ sym (seen_length see r))
    ∙ take-append_seam (map see (bytes_of r)) (map see (flat_map bytes_of (s ∷ [])))

pub second_seen : (see : ℕ → ℕ) (r s : Range) (n : ℕ) → r.len ≡ n → drop n (map see (flat_map bytes_of (r ∷ s ∷ []))) ≡ map see (bytes_of s)
second_seen see r s n is =
    ap (λ xs. drop n xs) (map-append see (bytes_of r) (flat_map bytes_of (s ∷ [])))
    ∙ ap (λ k. drop k (map see (bytes_of r) ++ map see (flat_map bytes_of (s ∷ [])))) (sym is ∙ sym (seen_length see r))
    ∙ drop-seam (map see (bytes_of r)) (map see (flat_map bytes_of (s ∷ [])))
    ∙ ap (map see) (append-nil (bytes_of s))

-- ranges of one length have it place by place
pub length_at : (xs ys : List Range) (i : ℕ) → map (λ r. r.len) xs ≡ map (λ r. r.len) ys → (slice_index_or xs i nowhere).len ≡ (slice_index_or ys i nowhere).len
length_at [] [] i e = refl
length_at [] (y ∷ ys) i e = absurd (cc)
length_at (x ∷ xs) [] i e = absurd (cc)
length_at (x ∷ xs) (y ∷ ys) zero e = cc
length_at (x ∷ xs) (y ∷ ys) (suc i) e = length_at xs ys i (cc)

pub one_read : (p : ℕ) (w : Work) (read bytes : List ℕ) (items : List Part) → reads_of w.task ≡ 1 → take (first_read w).len read ≡ bytes → items ≡ piece p 0 (first_read w) bytes ∷ [] → items ≡ read_pieces p w read
one_read p w read bytes items count first is =
    is ∙ ap (λ bs. piece p 0 (first_read w) bs ∷ []) (sym first)
    ∙ sym (ap (λ n. take n (piece p 0 (first_read w) (take (first_read w).len read) ∷ piece p 1 (second_read w) (drop (first_read w).len read) ∷ [])) count)

pub two_read : (p : ℕ) (w : Work) (read bytes more : List ℕ) (items : List Part) → reads_of w.task ≡ 2 → take (first_read w).len read ≡ bytes → drop (first_read w).len read ≡ more
    → items ≡ piece p 0 (first_read w) bytes ∷ piece p 1 (second_read w) more ∷ [] → items ≡ read_pieces p w read
two_read p w read bytes more items count first second is =
    is ∙ ap₂ (λ bs cs. piece p 0 (first_read w) bs ∷ piece p 1 (second_read w) cs ∷ []) (sym first) (sym second)
    ∙ sym (ap (λ n. take n (piece p 0 (first_read w) (take (first_read w).len read) ∷ piece p 1 (second_read w) (drop (first_read w).len read) ∷ [])) count)

-- two ranges of which all bytes lie in memory end there
pub first_within : (r s : Range) (total : ℕ) → All (λ b. b < total) (flat_map bytes_of (r ∷ s ∷ [])) → 0 < r.len → r.at + r.len ≤ total
first_within r s total all some = let last = range_below (r ∷ s ∷ []) 0 (r.len - 1) total r all (omega arith) (omega (arith, some)) in omega (arith, some, last)

pub second_within : (r s : Range) (total : ℕ) → All (λ b. b < total) (flat_map bytes_of (r ∷ s ∷ [])) → 0 < s.len → s.at + s.len ≤ total
second_within r s total all some = let last = range_below (r ∷ s ∷ []) 1 (s.len - 1) total r all (omega arith) (omega (arith, some)) in omega (arith, some, last)

-- ---- of a packet

module _ (p : ℕ) (placed : Placed) (see : ℕ → ℕ) (first second from more : Range) (suit : RangesSuit placed)
    (ranges : placed.work.foot.reads ≡ first ∷ second ∷ []) (numbers : placed.bytes.reads ≡ from ∷ more ∷ []) where
  length_is : from.len ≡ (first_read placed.work).len
  length_is = ap (λ rs. (slice_index_or rs 0 nowhere).len) (sym numbers) ∙ length_at placed.bytes.reads placed.work.foot.reads 0 suit.reads

  first_is : first_read placed.work ≡ first
  first_is = ap (λ rs. slice_index_or rs 0 nowhere) ranges

  second_is : second_read placed.work ≡ second
  second_is = ap (λ rs. slice_index_or rs 1 nowhere) ranges

  first_bytes : take (first_read placed.work).len (map see (read_entries placed.bytes)) ≡ map see (bytes_of from)
  first_bytes = ap (λ rs. take (first_read placed.work).len (map see (flat_map bytes_of rs))) numbers ∙ first_seen see from more (first_read placed.work).len length_is

  second_bytes : drop (first_read placed.work).len (map see (read_entries placed.bytes)) ≡ map see (bytes_of more)
  second_bytes = ap (λ rs. drop (first_read placed.work).len (map see (flat_map bytes_of rs))) numbers ∙ second_seen see from more (first_read placed.work).len length_is

  pub one_kept : (items : List Part) → reads_of placed.work.task ≡ 1 → items ≡ piece p 0 first (map see (bytes_of from)) ∷ []
      → items ≡ read_pieces p placed.work (map see (read_entries placed.bytes))
  one_kept items count is =
      one_read p placed.work (map see (read_entries placed.bytes)) (map see (bytes_of from)) items count first_bytes (is ∙ ap (λ r. piece p 0 r (map see (bytes_of from)) ∷ []) (sym first_is))

  pub two_kept : (items : List Part) → reads_of placed.work.task ≡ 2 → items ≡ piece p 0 first (map see (bytes_of from)) ∷ piece p 1 second (map see (bytes_of more)) ∷ []
      → items ≡ read_pieces p placed.work (map see (read_entries placed.bytes))
  two_kept items count is =
      two_read p placed.work (map see (read_entries placed.bytes)) (map see (bytes_of from)) (map see (bytes_of more)) items count first_bytes second_bytes
      (is ∙ ap₂ (λ r s. piece p 0 r (map see (bytes_of from)) ∷ piece p 1 s (map see (bytes_of more)) ∷ []) (sym first_is) (sym second_is))
