-- The numbers of packets.
use Rattle.std.specs.Prelude.{◌≡◌, ℕ, ◌+◌, ◌<◌, List, map, filter, take, length, slice_index, ◌==◌}
use Rattle.std.specs.List.{flat_map}
use Rattle.hq_tables.specs.declared.rows.Placed.{Placed}
use Rattle.hq_model.specs.Journal.{numbers}

-- those of a list that have this key, in its order
abbrev pub with_key : {X : Type 0} → (X → ℕ) → List X → ℕ → List X
with_key key xs q = filter (λ x. key x == q) xs

-- those with key 0, then those with key 1, and so on up to n - 1
abbrev pub grouped : {X : Type 0} → (X → ℕ) → ℕ → List X → List X
grouped key n xs = flat_map (with_key key xs) (numbers n)

-- how many of a list have each key below n
pub record CountEach {X : Type 0} (key : X → ℕ) (n : ℕ) (xs : List X) (counts : List ℕ) : Type 0 where
  pub width : length counts ≡ n
  pub each : (q : ℕ) → q < n → slice_index counts q ≡ length (with_key key xs q)

-- where the k-th of a list stands among the grouped: behind those of lesser keys, and those of its key ahead of it
abbrev pub number_of : {X : Type 0} → (X → ℕ) → List X → ℕ → ℕ
number_of key xs k =
    let q = slice_index (map key xs) k in
    length (grouped key q xs) + length (with_key key (take k xs) q)

-- Of packets in the order of their lines: the packets by number, the queues in file order and the packets of each
-- in its order; and the numbers in the order of the lines.
abbrev pub by_number : ℕ → List Placed → List Placed
by_number queues placed = grouped (λ p. p.queue) queues placed

-- the number of each of these packets, in the order of their lines
abbrev pub submissions_of : List Placed → List ℕ
submissions_of placed = map (number_of (λ p. p.queue) placed) (numbers (length placed))
