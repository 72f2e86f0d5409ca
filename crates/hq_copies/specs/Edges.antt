-- Sets of numbers as rising lists of edges, and bytes by their numbers. An edge is a number at which the set begins
-- or ends. This project's own.
use Rattle.std.specs.Prelude.{◌≡◌, ℕ, zero, suc, ◌+◌, ◌-◌, ◌<◌, ◌≤◌, Bool, true, false, not, List, [], ◌∷◌, length}
use Rattle.std.specs.Prelude.{nat_lt, ◌==◌, slice_index, if◌then◌else◌, Option, Some, None, max}
use Rattle.std.specs.FinMap as finite
use Rattle.hq_model.specs.View.{Held}
use Rattle.hq_model.specs.Machine.{Copy}
use Rattle.hq_copies.specs.Copies.{a_copy, count_below}

-- A number is in the set where an odd number of edges is at most the number.
abbrev pub has : List ℕ → ℕ → Bool
has [] n = false
has (e ∷ edges) n = if nat_lt n e then has edges n else not (has edges n)

-- Each edge is at least from and below those after it.
abbrev pub IsRising : ℕ → List ℕ → Type 0
IsRising from [] = Unit {0}
IsRising from (e ∷ edges) = (from ≤ e) × IsRising (suc e) edges

-- whether the number of edges is odd: then the set doesn't end
abbrev pub is_odd : List ℕ → Bool
is_odd [] = false
is_odd (e ∷ edges) = not (is_odd edges)

-- The edges with one more or, if it is there, without it: the numbers from it on are turned.
abbrev pub toggled : ℕ → List ℕ → List ℕ
toggled p [] = p ∷ []
toggled p (e ∷ edges) = if e == p then edges else if nat_lt p e then p ∷ e ∷ edges else e ∷ toggled p edges

-- the edge alone, or none, where the flag is set
abbrev pub unless : Bool → ℕ → List ℕ
unless true p = []
unless false p = p ∷ []

-- The new edges are those of the numbers in the set, and of all from start on and before end.
pub record Covered (edges : List ℕ) (start end : ℕ) (new : List ℕ) : Type 0 where
  pub rising : IsRising 0 new
  pub odd : is_odd new ≡ is_odd edges
  pub below : (n : ℕ) → n < start → has new n ≡ has edges n
  pub within : (n : ℕ) → start ≤ n → n < end → has new n ≡ true
  pub past : (n : ℕ) → end ≤ n → has new n ≡ has edges n

-- how many numbers below n are in the set, by its edges from one of them on; inside says whether the numbers before
-- are in it
abbrev pub spans : Bool → ℕ → List ℕ → ℕ → ℕ
spans inside from [] n = if inside then n - from else 0
spans inside from (e ∷ edges) n = if nat_lt n e then (if inside then n - from else 0) else
    (if inside then e - from else 0) + spans (not inside) e edges n

-- The byte of a number in the set: the bytes stand in the order of their numbers.
abbrev pub byte_at : (ℕ → Bool) → List ℕ → ℕ → Option ℕ
byte_at test bytes n = if test n then Some (slice_index bytes (count_below test n)) else None

-- a number from which on the set has none
abbrev pub ceiling : List ℕ → ℕ
ceiling [] = 0
ceiling (e ∷ edges) = max e (ceiling edges)

-- The edges rise, the set ends, and there is a byte for each of its numbers.
pub record IsRuns (edges bytes : List ℕ) : Type 0 where
  pub rising : IsRising 0 edges
  pub ends : is_odd edges ≡ false
  pub enough : (n : ℕ) → count_below (has edges) n ≤ length bytes

-- ---- lower bytes and upper ones together

-- a clean copy of the byte, if there is one
abbrev pub clean_copy : Option ℕ → Option Copy
clean_copy None = None
clean_copy (Some value) = Some (a_copy value false)

-- the copy of a number: of its upper byte, with their mark, or where it has none, a clean one of its lower byte
abbrev pub layered : Bool → Option ℕ → Option ℕ → Option Copy
layered dirty None lower = clean_copy lower
layered dirty (Some value) lower = Some (a_copy value dirty)

-- what is held, and with it number n's copy, if there is one
abbrev pub with_one : ℕ → Option Copy → Held → Held
with_one n None held = held
with_one n (Some copy) held = finite.insert held n copy

-- the finite map of f's copies at the numbers below n
unfoldable pub gathered : (ℕ → Option Copy) → ℕ → Held
gathered f zero = finite.empty
gathered f (suc n) = with_one n (f n) (gathered f n)

-- the copies that two sets of bytes are, the lower ones and the upper ones with their mark
abbrev pub copy_at : List ℕ → List ℕ → List ℕ → List ℕ → Bool → ℕ → Option Copy
copy_at lower lower_bytes upper upper_bytes dirty n = layered dirty (byte_at (has upper) upper_bytes n)
    (byte_at (has lower) lower_bytes n)

-- all that is held where upper bytes with their mark stand over lower ones, which are clean
abbrev pub level : List ℕ → List ℕ → List ℕ → List ℕ → Bool → Held
level lower lower_bytes upper upper_bytes dirty = gathered (copy_at lower lower_bytes upper upper_bytes dirty)
    (max (ceiling lower) (ceiling upper))
