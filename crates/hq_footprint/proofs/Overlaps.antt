-- Ranges share a byte exactly where each begins before the other ends.
use Rattle.std.proofs.Common.{◌≡◌, ℕ, zero, suc, ◌+◌, ◌-◌, ◌<◌, ◌≤◌, ◌↔◌, List, [], ◌∷◌, length, refl, sym, ◌∙◌, subst, inl, inr, arith}
use Rattle.std.specs.Prelude.{Contains, Any}
use Rattle.std.specs.List.{flat_map}
use Rattle.std.proofs.lemmas.List.FromFn.{length-range_with_len, get_or-range_with_len}
use Rattle.std.proofs.lemmas.List.Elements.{Contains-append_left, Contains-append_right, Contains-append_cases}
use Rattle.std.proofs.lemmas.Bool.{cases_lt}
use Rattle.hq_footprint.specs.declared.footprint.Range.{Range}
use Rattle.hq_footprint.specs.Bytes.{bytes_of, Share}
use Rattle.hq_footprint.specs.Conflicts.{Overlap}

-- where a byte of a range stands
pub record IsByteOf (r : Range) (b : ℕ) : Type 0 where
  pub low : r.at ≤ b
  pub high : b < r.at + r.len

pub byte_bounds : (r : Range) (b : ℕ) → Contains (bytes_of r) b → IsByteOf r b
byte_bounds r b (k, lt, e) =
    let short : k < r.len = subst (λ (n : ℕ). k < n) (length-range_with_len r.at r.len) lt in
    let here : r.at + k ≡ b = sym (get_or-range_with_len r.at r.len k b short) ∙ e in
    record { low = omega arith; high = omega arith }

pub byte_contained : (r : Range) (b : ℕ) → r.at ≤ b → b < r.at + r.len → Contains (bytes_of r) b
byte_contained r b low high =
    let short : b - r.at < r.len = omega arith in
    let long : b - r.at < length (bytes_of r) = subst (λ (n : ℕ). b - r.at < n) (sym (length-range_with_len r.at r.len)) short in
    let sum : r.at + (b - r.at) ≡ b = omega arith in
    (b - r.at, long, get_or-range_with_len r.at r.len (b - r.at) b short ∙ sum)

pub shared_overlap : (r s : Range) → Share (bytes_of r) (bytes_of s) → Overlap r s
shared_overlap r s (b, x, y) =
    let p = byte_bounds r b x in
    let q = byte_bounds s b y in
    record { some_byte = omega (arith, p.low, p.high); other_byte = omega (arith, q.low, q.high); before = omega (arith, p.low, q.high); after = omega (arith, q.low, p.high) }

pub overlap_shared : (r s : Range) → Overlap r s → Share (bytes_of r) (bytes_of s)
overlap_shared r s o = elim (cases_lt r.at s.at) [
  | inl below ↦ (s.at, byte_contained r s.at (omega arith) o.after, byte_contained s s.at (omega arith) (omega (arith, o.other_byte)))
  | inr above ↦ (r.at, byte_contained r r.at (omega arith) (omega (arith, o.some_byte)), byte_contained s r.at above o.before)
]

pub overlaps_share : (r s : Range) → Overlap r s ↔ Share (bytes_of r) (bytes_of s)
overlaps_share r s = (overlap_shared r s, shared_overlap r s)

pub share_sym : (xs ys : List ℕ) → Share xs ys → Share ys xs
share_sym xs ys (b, x, y) = (b, y, x)

-- one of some ranges shares a byte with a list exactly where the ranges end to end do
pub any_shares : (ys : List ℕ) (rs : List Range) → Any (λ r. Share (bytes_of r) ys) rs → Share (flat_map bytes_of rs) ys
any_shares ys [] (k, r, lt, e, share) = absurd (omega arith)
any_shares ys (q ∷ rs) (zero, r, lt, e, (b, x, y)) = (b, Contains-append_left (bytes_of q) (flat_map bytes_of rs) b (subst (λ (v : Range). Contains (bytes_of v) b) (sym e) x), y)
any_shares ys (q ∷ rs) (suc k, r, lt, e, share) =
    let (b, x, y) = any_shares ys rs (k, r, omega arith, e, share) in
    (b, Contains-append_right (bytes_of q) (flat_map bytes_of rs) b x, y)

pub shares_any : (ys : List ℕ) (rs : List Range) → Share (flat_map bytes_of rs) ys → Any (λ r. Share (bytes_of r) ys) rs
shares_any ys [] (b, (k, lt, same), y) = absurd (omega arith)
shares_any ys (q ∷ rs) (b, x, y) = elim (Contains-append_cases (bytes_of q) (flat_map bytes_of rs) b x) [
  | inl here ↦ (0, q, omega arith, refl, (b, here, y))
  | inr there ↦ let (k, r, lt, e, share) = shares_any ys rs (b, there, y) in (suc k, r, omega arith, e, share)
]
