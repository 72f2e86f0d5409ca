-- Counts of bytes and of steps.
use Rattle.std.proofs.Common.{◌≡◌, ℕ, ◌+◌, ◌-◌, ◌<◌, ◌≤◌, inl, inr, List, [], ◌∷◌, ◌++◌, length, sym, subst, arith, slice_index_or, All, length-append}
use Rattle.std.specs.List.{flat_map}
use Rattle.std.proofs.lemmas.Bool.{cases_lt}
use Rattle.std.proofs.lemmas.List.{get_or_append_left, get_or-append-add}
use Rattle.std.proofs.lemmas.List.Elements.{All-cons}
use Rattle.std.proofs.lemmas.List.Concat.{length-flat_map}
use Rattle.hq_footprint.specs.declared.footprint.Range.{Range}
use Rattle.hq_footprint.specs.Bytes.{bytes_of, read_entries, written_bytes}
use Rattle.hq_footprint.proofs.RangeBytes.{bytes_placed, bytes_counted}
use Rattle.hq_tables.specs.declared.rows.Placed.{Placed}
use Rattle.hq_job.specs.Value.{JobValue}
use Rattle.hq_job.specs.View.{WithinLimits, PacketIsRead}
use Rattle.hq_job.specs.Plan.{plan}
use Rattle.hq_model.specs.declared.limits.TheConstants.{BYTES}
use Rattle.hq_model.specs.Machine.{IsByte}
use Rattle.hq_model.specs.Theorems.{Valid}
use Rattle.hq_certcheck.specs.Brief.{IsShort}
use Rattle.hq_job.proofs.Shares.{packet_at}

-- a range whose bytes are all below n has no more than n
pub short_range : (r : Range) (n : ℕ) → All (λ b. b < n) (bytes_of r) → r.len ≤ n
short_range r n all = elim (cases_lt 0 r.len) [
  | inr none ↦ omega (arith, none)
  | inl some ↦
      let last : r.len - 1 < length (bytes_of r) = omega (arith, some, bytes_counted r) in
      omega (arith, some, all (r.len - 1) 0 last, bytes_placed r (r.len - 1) 0 (omega (arith, some)))
]

all_left : {X : Type 0} (P : X → Type 0) (xs ys : List X) → All P (xs ++ ys) → All P xs
all_left P xs ys h = λ k d l. subst P (get_or_append_left xs ys d k l) (h k d (omega (arith, l, length-append xs ys)))

all_right : {X : Type 0} (P : X → Type 0) (xs ys : List X) → All P (xs ++ ys) → All P ys
all_right P xs ys h = λ k d l. subst P (get_or-append-add xs ys k d) (h (length xs + k) d (omega (arith, l, length-append xs ys)))

pub short_ranges : (xs : List Range) (n : ℕ) → All (λ b. b < n) (flat_map bytes_of xs) → All (λ r. r.len ≤ n) xs
short_ranges [] n all = λ k d l. absurd (omega arith)
short_ranges (x ∷ xs) n all = All-cons (λ r. r.len ≤ n) x xs (short_range x n (all_left (λ b. b < n) (bytes_of x) (flat_map bytes_of xs) all)) (short_ranges xs n (all_right (λ b. b < n) (bytes_of x) (flat_map bytes_of xs) all))

memory_few : (v : JobValue) → WithinLimits v → length (plan v).memory ≤ BYTES
memory_few v limits = omega (arith, limits.bytes, length-flat_map (λ b. b.bytes) v.buffers)

-- no range of a packet of a job that was read has more bytes than memory
pub is_short : (v : JobValue) (p : ℕ) (x : Placed) → WithinLimits v → All (PacketIsRead v) v.packets → Valid (plan v) → p < length v.packets → x ≡ slice_index_or v.packets p x → IsShort x
is_short v p x limits read valid l e =
    let is : PacketIsRead v x = subst (PacketIsRead v) (sym e) (read p x l) in
    let low : All (λ b. b < BYTES) (read_entries x.bytes) = λ k d m. omega (arith, is.reads k d m, limits.bytes) in
    let writes : All (IsByte (plan v)) (written_bytes x.bytes) = subst (λ q. All (IsByte (plan v)) q.writes) (packet_at v p x l e) (valid.writes p) in
    record {
      reads = short_ranges x.bytes.reads BYTES low;
      write = short_range x.bytes.write BYTES (λ k d m. omega (arith, writes k d m, memory_few v limits));
    }
