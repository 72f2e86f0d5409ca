-- Packets whose parts of memory are apart don't conflict.
use Rattle.std.proofs.Common.{◌≡◌, ◌≢◌, ◌↔◌, ◌⊎◌, ◌||◌, ◌==◌, Bool, true, false, IsTrue, drop, ℕ, zero, suc, ◌+◌, ◌*◌, ◌/◌, ◌%◌, ◌<◌, ◌≤◌, inl, inr, List, [], ◌∷◌, ◌++◌, length, refl, sym, ◌∙◌, ap, subst, arith, Some, slice_get, slice_index_or, take, bit_or, bit_and, w64, ◌^◌}
use Rattle.std.specs.Prelude.{All}
use Rattle.std.specs.Int.{bit_at}
use Rattle.std.specs.List.{AllZip, flat_map}
use Rattle.std.proofs.Math.Nat.{div-mul-le_self}
use Rattle.std.proofs.lemmas.Bool.{cases_eq, cases_lt, eq-eqb}
use Rattle.std.proofs.lemmas.List.{length-map, take_more}
use Rattle.std.proofs.lemmas.Nat.{le-div}
use Rattle.std.proofs.lemmas.Nat.Bits.{bit_at_and, bit_at_or, bit_at-lt, bit_at-zero, bit_at_set_same, bit_at_set_other, bit_at_ones, bit_at_above}
use Rattle.std.proofs.lemmas.Option.{slice_get_within, slice_get-get_or}
use Rattle.std.proofs.lemmas.List.{take_all}
use Rattle.hq_footprint.specs.declared.footprint.Range.{Range}
use Rattle.hq_footprint.specs.Bytes.{bytes_of, read_entries, written_bytes, Share}
use Rattle.hq_footprint.proofs.Overlaps.{byte_bounds, shares_any, share_sym}
use Rattle.hq_tables.specs.declared.rows.Placed.{Placed}
use Rattle.hq_job.specs.Value.{JobValue}
use Rattle.hq_job.specs.Plan.{plan, planned}
use Rattle.hq_job.proofs.Shares.{packet_at}
use Rattle.hq_model.specs.Job.{Job, packet}
use Rattle.hq_model.specs.Fence.Conflict.{WriteRead, WriteWrite, ReadWrite}
use Rattle.hq_parts.specs.declared.parts.Parts.{Parts}
use Rattle.hq_parts.specs.declared.parts.Touch.{Touch}
use Rattle.hq_bits.specs.Bits.{has}
use Rattle.hq_bits.proofs.Walked.{column_has}
use Rattle.hq_parts.specs.Parts.{HasRange, HasFoot, AreDisjoint, IsApart, LeftOf, NeverConflict, TellConflicts, IsTable, AreParts, TakesRows}

-- ---- masks

pub in_left : (a b k : ℕ) → bit_at a k ≡ 1 → bit_at (bit_or a b) k ≡ 1
in_left a b k x = let low = bit_at-lt b k in bit_at_or a b k ∙ omega (arith, x, low)

pub in_right : (a b k : ℕ) → bit_at b k ≡ 1 → bit_at (bit_or a b) k ≡ 1
in_right a b k x = let low = bit_at-lt a k in bit_at_or a b k ∙ omega (arith, x, low)

pub range_left : (size a b : ℕ) (r : Range) → HasRange size a r → HasRange size (bit_or a b) r
range_left size a b r h = record { bytes = λ x low high. in_left a b (x / size % 64) (h.bytes x low high) }

pub range_right : (size a b : ℕ) (r : Range) → HasRange size b r → HasRange size (bit_or a b) r
range_right size a b r h = record { bytes = λ x low high. in_right a b (x / size % 64) (h.bytes x low high) }

pub reads_left : (size a b : ℕ) (rs : List Range) → All (HasRange size a) rs → All (HasRange size (bit_or a b)) rs
reads_left size a b rs h = λ k d low. range_left size a b (slice_index_or rs k d) (h k d low)

-- the part of this step is taken in too
pub one_more : (mask first step : ℕ) → ((k : ℕ) → first ≤ k → k < first + step → bit_at mask (k % 64) ≡ 1)
    → (k : ℕ) → first ≤ k → k < first + (step + 1) → bit_at (bit_or mask (1 * 2 ^ ((first + step) % 64) % 2 ^ 64)) (k % 64) ≡ 1
one_more mask first step h k low high =
    let bit : ℕ = (first + step) % 64 in
    elim (cases_eq (k % 64) bit) [
      | inl e ↦ ap (bit_at (bit_or mask (1 * 2 ^ bit % 2 ^ 64))) e ∙ bit_at_set_same w64 mask bit (omega arith)
      | inr other ↦
          let less : k < first + step = elim (cases_eq k (first + step)) [ inl e ↦ absurd (other (ap (λ m. m % 64) e)) | inr apart ↦ omega arith ] in
          bit_at_set_other w64 mask bit (omega arith) (k % 64) other ∙ h k low less
    ]

div_mono : (x y size : ℕ) → 0 < size → x ≤ y → x / size ≤ y / size
div_mono x y size some low = le-div (x / size) y size some (omega (arith, div-mul-le_self x size, low))

-- the parts from that of the first byte to that of the last
pub range_parts : (size mask last : ℕ) (r : Range) → 0 < size → last + 1 ≡ r.at + r.len
    → ((k : ℕ) → r.at / size ≤ k → k ≤ last / size → bit_at mask (k % 64) ≡ 1) → HasRange size mask r
range_parts size mask last r some e h = record {
  bytes = λ x low high. h (x / size) (div_mono r.at x size some low) (div_mono x last size some (omega (arith, e, high)));
}

pub all_parts : (size : ℕ) (r : Range) → HasRange size 18446744073709551615 r
all_parts size r = record { bytes = λ x low high. bit_at_ones 64 (x / size % 64) (omega arith) }

-- ---- ranges

apart_ranges : (size a b : ℕ) (r s : Range) → HasRange size a r → HasRange size b s → AreDisjoint a b → Share (bytes_of r) (bytes_of s) → ⊥
apart_ranges size a b r s g h none (x, in_r, in_s) =
    let p = byte_bounds r x in_r in
    let q = byte_bounds s x in_s in
    none (x / size % 64) (g.bytes x p.low p.high) (h.bytes x q.low q.high)

apart_reads : (size a b : ℕ) (reads : List Range) (w : Range) → All (HasRange size a) reads → HasRange size b w → AreDisjoint a b → Share (flat_map bytes_of reads) (bytes_of w) → ⊥
apart_reads size a b reads w g h none s =
    let (k, r, low, is, share) = shares_any (bytes_of w) reads s in
    apart_ranges size a b r w (subst (HasRange size a) is (g k r low)) h none share

turned : (a b : ℕ) → AreDisjoint a b → AreDisjoint b a
turned a b none k x y = none k y x

conflict_apart : (job : Job) (size : ℕ) (a b : ℕ) (t u : Touch) (x y : Placed) → packet job a ≡ planned x → packet job b ≡ planned y → HasFoot size t x.bytes → HasFoot size u y.bytes → IsApart t u → NeverConflict job a b
conflict_apart job size a b t u x y i j g h apart WriteRead c =
    let s : Share (written_bytes x.bytes) (read_entries y.bytes) = subst (λ q. Share (written_bytes x.bytes) q.reads) j (subst (λ q. Share q.writes (packet job b).reads) i c) in
    apart_reads size u.touched t.written y.bytes.reads x.bytes.write h.reads g.written (turned t.written u.touched apart.first) (share_sym (written_bytes x.bytes) (read_entries y.bytes) s)
conflict_apart job size a b t u x y i j g h apart WriteWrite c =
    let s : Share (written_bytes x.bytes) (written_bytes y.bytes) = subst (λ q. Share (written_bytes x.bytes) q.writes) j (subst (λ q. Share q.writes (packet job b).writes) i c) in
    apart_ranges size t.written u.touched x.bytes.write y.bytes.write g.written h.touched apart.first s
conflict_apart job size a b t u x y i j g h apart ReadWrite c =
    let s : Share (read_entries x.bytes) (written_bytes y.bytes) = subst (λ q. Share (read_entries x.bytes) q.writes) j (subst (λ q. Share q.reads (packet job b).writes) i c) in
    apart_reads size t.touched u.written x.bytes.reads y.bytes.write g.reads h.written apart.second s

-- ---- all packets

-- the parts of these packets
abbrev pub AreOf : ℕ → List Touch → List Placed → Type 0
AreOf size ts packets = AllZip (λ t x. HasFoot size t x.bytes) ts packets

pub of_push : (size : ℕ) (ts : List Touch) (packets : List Placed) (i : ℕ) (t : Touch) (x : Placed) → AreOf size ts (take i packets) → i < length packets → x ≡ slice_index_or packets i x → HasFoot size t x.bytes → AreOf size (ts ++ t ∷ []) (take (i + 1) packets)
of_push size ts packets i t x h low is this =
    let more : take (i + 1) packets ≡ take i packets ++ x ∷ [] = take_more packets i x low ∙ ap (λ y. take i packets ++ y ∷ []) (sym is) in
    subst (AreOf size (ts ++ t ∷ [])) (sym more) (push ts (take i packets) h)
  where
    push : (ts : List Touch) (xs : List Placed) → AreOf size ts xs → AreOf size (ts ++ t ∷ []) (xs ++ x ∷ [])
    push [] [] h = (this, tt)
    push [] (y ∷ xs) h = absurd h
    push (d ∷ ts) [] h = absurd h
    push (d ∷ ts) (y ∷ xs) h = (h.0, push ts xs h.1)

of_length : (size : ℕ) (ts : List Touch) (xs : List Placed) → AreOf size ts xs → length ts ≡ length xs
of_length size [] [] h = refl
of_length size [] (y ∷ xs) h = absurd h
of_length size (t ∷ ts) [] h = absurd h
of_length size (t ∷ ts) (y ∷ xs) h = ap suc (of_length size ts xs h.1)

-- the packet at a place
record At (size : ℕ) (t : Touch) (xs : List Placed) (i : ℕ) : Type 0 where
  x : Placed
  placed : x ≡ slice_index_or xs i x
  has : HasFoot size t x.bytes

at : (size : ℕ) (ts : List Touch) (xs : List Placed) (i : ℕ) (t : Touch) → AreOf size ts xs → slice_get ts i ≡ Some t → At size t xs i
at size [] [] i t h e = let never : ⊥ = cc in absurd never
at size [] (y ∷ xs) i t h e = absurd h
at size (d ∷ ts) [] i t h e = absurd h
at size (d ∷ ts) (y ∷ xs) zero t h e = let same : d ≡ t = cc in record { x = y; placed = refl; has = subst (λ u. HasFoot size u y.bytes) same h.0 }
at size (d ∷ ts) (y ∷ xs) (suc i) t h e = let r = at size ts xs i t h.1 e in record { x = r.x; placed = r.placed; has = r.has }

of_packets : (size : ℕ) (v : JobValue) (ts : List Touch) → AreOf size ts v.packets → TellConflicts (plan v) ts
of_packets size v ts h =
    let count : length (plan v).packets ≡ length v.packets = length-map v.packets planned in
    let len : length ts ≡ length v.packets = of_length size ts v.packets h in
    record {
      len = len ∙ sym count;
      apart = λ a b t u e f apart.
          let a_low : a < length v.packets = omega (arith, slice_get_within ts a t e, len) in
          let b_low : b < length v.packets = omega (arith, slice_get_within ts b u f, len) in
          let p = at size ts v.packets a t h e in
          let q = at size ts v.packets b u h f in
          conflict_apart (plan v) size a b t u p.x q.x (packet_at v a p.x a_low p.placed) (packet_at v b q.x b_low q.placed) p.has q.has apart;
    }

pub of_all : (size : ℕ) (v : JobValue) (ts : List Touch) (i : ℕ) → length v.packets ≤ i → AreOf size ts (take i v.packets) → TellConflicts (plan v) ts
of_all size v ts i l h = of_packets size v ts (subst (AreOf size ts) (take_all i v.packets l) h)

-- ---- rows of packets

pub read_at : (xs : List Touch) (i : ℕ) (x : Touch) → x ≡ slice_index_or xs i x → i < length xs → slice_get xs i ≡ Some x
read_at xs i x e low = slice_get-get_or xs i x low ∙ ap Some (sym e)

-- so for the first packets
abbrev pub AreNoted : (Touch → ℕ) → List Touch → ℕ → List ℕ → Type 0
AreNoted mask touches n table = (k b : ℕ) (t : Touch) → b < n → k < 64 → slice_get touches b ≡ Some t → bit_at (mask t) k ≡ 1 → IsTrue (has table (k * 1024 + b))

-- what a row of a table takes in with a word
abbrev IsTurned : List ℕ → List ℕ → ℕ → ℕ → Type 0
IsTurned old new word r = (x : ℕ) → IsTrue (has new x) ↔ (IsTrue (has old x) ⊎ ((bit : ℕ) × (bit < 64) × (IsTrue (bit_at word bit == 1) × (x ≡ (0 + bit) * 1024 + r))))

pub noted_next : (mask : Touch → ℕ) (touches : List Touch) (n : ℕ) (old new : List ℕ) (t : Touch) → AreNoted mask touches n old → slice_get touches n ≡ Some t → IsTurned old new (mask t) n → AreNoted mask touches (n + 1) new
noted_next mask touches n old new t h there turned = λ k b u low part e x. elim (cases_lt b n) [
  | inl ahead ↦ (turned (k * 1024 + b)).1 (inl (h k b u ahead part e x))
  | inr behind ↦
      let here : b ≡ n = omega arith in
      let same : slice_get touches n ≡ Some u = subst (λ m. slice_get touches m ≡ Some u) here e in
      let is : u ≡ t = cc in
      let bit : bit_at (mask t) k ≡ 1 = subst (λ (w : Touch). bit_at (mask w) k ≡ 1) is x in
      (turned (k * 1024 + b)).1 (inr (k, part, (eq-eqb (bit_at (mask t) k) 1 bit, omega arith)))
]

pub all_noted : (mask : Touch → ℕ) (touches : List Touch) (n : ℕ) (table : List ℕ) → length table ≡ 1024 → length touches ≤ n → AreNoted mask touches n table → IsTable mask touches table
all_noted mask touches n table len over h = record { len = len; each = λ k b t part e x. h k b t (let low = slice_get_within touches b t e in omega arith) part e x }

-- the packets of the parts that are gone from the rest
abbrev pub TakesGone : List ℕ → ℕ → ℕ → List ℕ → Type 0
TakesGone table mask rest row = (k p : ℕ) → k < 64 → p < 1024 → bit_at mask k ≡ 1 → bit_at rest k ≡ 0 → IsTrue (has table (k * 1024 + p)) → IsTrue (has row p)

in_first : (x y z : Bool) → x ≡ (y || z) → IsTrue y → IsTrue x
in_first x true z e h = e
in_first x false z e h = absurd cc

in_second : (x y z : Bool) → x ≡ (y || z) → IsTrue z → IsTrue x
in_second x true z e h = e
in_second x false true e h = e
in_second x false false e h = absurd cc

pub kept_on : (first row new column : List ℕ) → ((p : ℕ) → has new p ≡ (has row p || has column p)) → ((p : ℕ) → IsTrue (has first p) → IsTrue (has row p)) → (p : ℕ) → IsTrue (has first p) → IsTrue (has new p)
kept_on first row new column united h p x = in_first (has new p) (has row p) (has column p) (united p) (h p x)

pub takes_next : (table row new column : List ℕ) (mask rest less part : ℕ) → column ≡ take 16 (drop (part * 16) table) → ((p : ℕ) → has new p ≡ (has row p || has column p)) → ((i : ℕ) → i < 64 → i ≢ part → bit_at less i ≡ bit_at rest i)
    → TakesGone table mask rest row → TakesGone table mask less new
takes_next table row new column mask rest less part is united same h = λ k p low few x gone there. elim (cases_eq k part) [
  | inl here ↦
      let in_column : has column p ≡ has table (part * 1024 + p) = ap (λ c. has c p) is ∙ column_has table part p (omega arith) in
      in_second (has new p) (has row p) (has column p) (united p) (in_column ∙ subst (λ m. IsTrue (has table (m * 1024 + p))) here there)
  | inr other ↦ in_first (has new p) (has row p) (has column p) (united p) (h k p low few x (sym (same k low other) ∙ gone) there)
]

low_bit : (mask k : ℕ) → mask < 2 ^ 64 → bit_at mask k ≡ 1 → k < 64
low_bit mask k small x = elim (cases_lt k 64) [ inl low ↦ low | inr high ↦ absurd (never k x (bit_at_above mask 64 k small high)) ] where
  never : (k : ℕ) → bit_at mask k ≡ 1 → bit_at mask k ≡ 0 → ⊥
  never k x y = omega (arith, x, y)

pub takes_all : (table row : List ℕ) (mask rest : ℕ) → mask < 2 ^ 64 → rest ≡ 0 → TakesGone table mask rest row → TakesRows table mask row
takes_all table row mask rest small none h =
    record {
      low = λ k x. low_bit mask k small x;
      rows = λ k p few x there. h k p (low_bit mask k small x) few x (ap (λ r. bit_at r k) none ∙ bit_at-zero k) there;
    }

pub takes_more : (table row new : List ℕ) (mask : ℕ) → TakesRows table mask row → ((p : ℕ) → IsTrue (has row p) → IsTrue (has new p)) → TakesRows table mask new
takes_more table row new mask h kept = record { low = h.low; rows = λ k p few x there. kept p (h.rows k p few x there) }

-- a packet that isn't in the row is apart
no_row : (mask : ℕ) (touches : List Touch) (table bits : List ℕ) (of : Touch → ℕ) (u : Touch) (s : ℕ) → IsTable of touches table → TakesRows table mask bits → slice_get touches s ≡ Some u → s < 1024 → has bits s ≡ false → AreDisjoint mask (of u)
no_row mask touches table bits of u s are takes there few none = λ k x y. never (has bits s) none (takes.rows k s few x (are.each k s u (takes.low k x) there y)) where
  never : (b : Bool) → b ≡ false → IsTrue b → ⊥
  never true e h = absurd cc
  never false e h = absurd cc

pub none_of_others : (job : Job) (parts : Parts) (bits : List ℕ) (a : ℕ) (t : Touch) → AreParts job parts → slice_get parts.packets.items a ≡ Some t
    → TakesRows parts.tables.touched.items t.written bits → TakesRows parts.tables.written.items t.touched bits → (s : ℕ) → s < length job.packets → has bits s ≡ false → NeverConflict job a s
none_of_others job parts bits a t are e touched written s low none =
    let touches = parts.packets.items in
    let tell = are.tell in
    let within : s < length touches = omega (arith, tell.len, low) in
    let few : s < 1024 = omega (arith, are.few, within) in
    let u : Touch = slice_index_or touches s t in
    let there : slice_get touches s ≡ Some u = slice_get-get_or touches s t within in
    tell.apart a s t u e there
    (record {
      first = no_row t.written touches parts.tables.touched.items bits (λ v. v.touched) u s are.tables.touched touched there few none;
      second = no_row t.touched touches parts.tables.written.items bits (λ v. v.written) u s are.tables.written written there few none;
    })

-- ---- finer parts

no_bit : (a b k : ℕ) → bit_and a b ≡ 0 → bit_at a k ≡ 1 → bit_at b k ≡ 1 → ⊥
no_bit a b k none x y =
    let both : bit_at (bit_and a b) k ≡ 0 = ap (λ w. bit_at w k) none ∙ bit_at-zero k in
    let least = bit_at_and a b k in
    omega (arith, x, y, both, least)

pub apart_by : (t u : Touch) → bit_and t.written u.touched ≡ 0 → bit_and t.touched u.written ≡ 0 → IsApart t u
apart_by t u first second = record { first = λ k x y. no_bit t.written u.touched k first x y; second = λ k x y. no_bit t.touched u.written k second x y }

pub none_left : (job : Job) (parts : Parts) (first bits : List ℕ) (a : ℕ) (t : Touch) → AreParts job parts → LeftOf first parts.fine.items a bits → slice_get parts.packets.items a ≡ Some t → a < length job.packets
    → TakesRows parts.tables.touched.items t.written first → TakesRows parts.tables.written.items t.touched first → (s : ℕ) → s < length job.packets → has bits s ≡ false → NeverConflict job a s
none_left job parts first bits a t are left e is touched written s low none = elim (left s within none) [
  | inl out ↦ none_of_others job parts first a t are e touched written s low out
  | inr apart ↦ are.fine.apart a s v u at_a at_s (apart v u at_a at_s)
]
  where
    fine : List Touch
    fine = parts.fine.items

    within : s < length fine
    within = omega (arith, are.fine.len, low)

    v : Touch
    v = slice_index_or fine a t

    u : Touch
    u = slice_index_or fine s t

    at_a : slice_get fine a ≡ Some v
    at_a = slice_get-get_or fine a t (omega (arith, are.fine.len, is))

    at_s : slice_get fine s ≡ Some u
    at_s = slice_get-get_or fine s t within
