-- The bytes of ranges, by their numbers.
use Rattle.std.proofs.Common.{◌≡◌, ℕ, ◌+◌, ◌-◌, ◌<◌, ◌≤◌, ◌↔◌, IsTrue, Bool, true, false, inl, inr, ltb, leb, List, ◌∷◌, length, slice_index_or, sym, ◌∙◌, ap, subst, arith}
use Rattle.std.specs.Prelude.{All, Contains, min}
use Rattle.std.specs.List.{flat_map}
use Rattle.std.proofs.lemmas.Bool.{ltb-true, lt-ltb, leb-true, true≢false}
use Rattle.std.proofs.lemmas.List.{get_or-map}
use Rattle.std.proofs.lemmas.List.Concat.{length-flat_map}
use Rattle.std.proofs.lemmas.List.Elements.{All-contains, Contains-append_right, Contains-append_cases}
use Rattle.hq_tables.specs.declared.rows.Placed.{Placed}
use Rattle.hq_job.specs.Plan.{plan, planned}
use Rattle.hq_job.specs.Value.{JobValue}
use Rattle.hq_job.specs.View.{WithinLimits}
use Rattle.hq_model.specs.declared.limits.TheConstants.{BYTES}
use Rattle.hq_finding.specs.declared.kind.Kind.{Kind}
use Rattle.hq_finding.specs.declared.kind.Kind.TheVariants as kind
use Rattle.hq_model.specs.Job.{Job, packet, no_packet}
use Rattle.hq_model.specs.Machine.{IsByte}
use Rattle.hq_model.specs.Theorems.{Valid}
use Rattle.hq_witness.specs.Targets.{written_bytes}
use Rattle.hq_footprint.specs.declared.footprint.Range.{Range}
use Rattle.hq_footprint.specs.Bytes.{bytes_of}
use Rattle.hq_footprint.proofs.Overlaps.{byte_bounds, byte_contained}

pub in_range : (r : Range) (b : ℕ) → r.at ≤ b → IsTrue (ltb (b - r.at) r.len) ↔ Contains (bytes_of r) b
in_range r b low = (
  λ t. byte_contained r b low (omega (arith, low, ltb-true (b - r.at) r.len t)),
  λ has. lt-ltb (b - r.at) r.len (omega (arith, low, (byte_bounds r b has).high)),
)

pub below_range : (r : Range) (b : ℕ) → b < r.at → IsTrue (leb r.at b) ↔ Contains (bytes_of r) b
below_range r b below = (
  λ t. absurd (omega (arith, below, leb-true r.at b t)),
  λ has. absurd (omega (arith, below, (byte_bounds r b has).low)),
)

-- from where to where a range's bytes are, of those below a bound
pub numbered : (r : Range) (b start stop sum most top : ℕ) → start ≡ min r.at most → sum ≡ min (r.at + r.len) top → stop ≡ min sum most → most ≤ top → b < most → ((start ≤ b) × (b < stop)) ↔ Contains (bytes_of r) b
numbered r b start stop sum most top first all last wide low = (
  λ h. byte_contained r b (omega (arith, h.0)) (omega (arith, h.1)),
  λ has. let h = byte_bounds r b has in (omega (arith, h.low), omega (arith, h.high)),
)

-- ---- packets of a job

-- what stands in the job's list is what the plan has
pub packet_at : (v : JobValue) (packets : List Placed) (p : ℕ) (x : Placed) → packets ≡ v.packets → true ≡ ltb p (length packets) → x ≡ slice_index_or packets p x → planned x ≡ packet (plan v) p
packet_at v packets p x same low is =
    let there : p < length v.packets = subst (λ (xs : List Placed). p < length xs) same (ltb-true p (length packets) (sym low)) in
    sym (get_or-map planned v.packets p x no_packet there ∙ ap planned (sym (subst (λ (xs : List Placed). x ≡ slice_index_or xs p x) same is)))

memory_few : (v : JobValue) → WithinLimits v → length (plan v).memory ≤ BYTES
memory_few v limits = omega (arith, limits.bytes, length-flat_map (λ b. b.bytes) v.buffers)

byte_low : (v : JobValue) (xs : List ℕ) (b : ℕ) → WithinLimits v → All (IsByte (plan v)) xs → Contains xs b → b < BYTES
byte_low v xs b limits bytes (k, low, is) = omega (arith, is, bytes k b low, memory_few v limits)

pub written_are : (v : JobValue) (xs : List ℕ) (r : Range) (start stop : ℕ) → WithinLimits v → All (IsByte (plan v)) xs → bytes_of r ≡ xs → stop ≤ BYTES → ((b : ℕ) → b < BYTES → ((start ≤ b) × (b < stop)) ↔ Contains (bytes_of r) b) → (b : ℕ) → ((start ≤ b) × (b < stop)) ↔ Contains xs b
written_are v xs r start stop limits bytes is few are b = (
  λ h. subst (λ (ys : List ℕ). Contains ys b) is ((are b (omega (arith, h.1, few))).0 h),
  λ has. (are b (byte_low v xs b limits bytes has)).1 (subst (λ (ys : List ℕ). Contains ys b) (sym is) has),
)

-- the same said of an equal list
pub told_as : (xs ys : List ℕ) (start stop : ℕ) → ys ≡ xs → ((b : ℕ) → ((start ≤ b) × (b < stop)) ↔ Contains xs b) → (b : ℕ) → ((start ≤ b) × (b < stop)) ↔ Contains ys b
told_as xs ys start stop same h = subst (λ (zs : List ℕ). (b : ℕ) → ((start ≤ b) × (b < stop)) ↔ Contains zs b) (sym same) h

-- a byte that isn't in the first of some ranges is in one of them where it is in one of the others
pub in_others : (rs : List Range) (r : Range) (others : List Range) (b : ℕ) (here there : Bool) → rs ≡ r ∷ others → IsTrue here ↔ Contains (bytes_of r) b → here ≡ false → IsTrue there ↔ Contains (flat_map bytes_of others) b → IsTrue there ↔ Contains (flat_map bytes_of rs) b
in_others rs r others b here there is first apart rest = subst (λ (xs : List Range). IsTrue there ↔ Contains (flat_map bytes_of xs) b) (sym is) (
  λ t. Contains-append_right (bytes_of r) (flat_map bytes_of others) b (rest.0 t),
  λ has. elim (Contains-append_cases (bytes_of r) (flat_map bytes_of others) b has) [
    | inl x ↦ absurd (true≢false (sym (first.1 x) ∙ apart))
    | inr y ↦ rest.1 y
  ],
)

-- a byte that the packet which writes first of two writes is one of memory
pub written_within : (job : Job) → Valid job → (k : Kind) (p r b : ℕ) → Contains (written_bytes k (packet job p) (packet job r)) b → IsByte job b
written_within job valid kind.WriteRead p r b has = All-contains (IsByte job) (packet job p).writes b (valid.writes p) has
written_within job valid kind.WriteWrite p r b has = All-contains (IsByte job) (packet job p).writes b (valid.writes p) has
written_within job valid kind.ReadWrite p r b has = All-contains (IsByte job) (packet job r).writes b (valid.writes r) has
