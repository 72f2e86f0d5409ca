-- What a task writes of the bytes that were read.
use Rattle.std.specs.Prelude.{◌≡◌, ℕ, zero, suc, ◌+◌, ◌/◌, ◌%◌, ◌^◌, List, [], ◌∷◌, take, drop, reverse, replicate}
use Rattle.std.specs.Prelude.{sum, count_by, ◌==◌, bit_xor}
use Rattle.hq_footprint.specs.declared.task.Task.{Task}
use Rattle.hq_footprint.specs.declared.task.Task.TheVariants as task

-- a number as so many bytes, the least first
abbrev pub little_endian : ℕ → ℕ → List ℕ
little_endian zero n = []
little_endian (suc k) n = n % 256 ∷ little_endian k (n / 256)

-- f of the elements in the same places
abbrev pub joined_by : (ℕ → ℕ → ℕ) → List ℕ → List ℕ → List ℕ
joined_by f [] ys = []
joined_by f (x ∷ xs) [] = []
joined_by f (x ∷ xs) (y ∷ ys) = f x y ∷ joined_by f xs ys

-- the n bytes that a task writes, of the bytes that it read
abbrev pub result_of : Task → ℕ → List ℕ → List ℕ
result_of (task.Fill byte) n bytes = replicate n byte
result_of task.Copy n bytes = bytes
result_of task.Rev n bytes = reverse bytes
result_of task.Xor n bytes = joined_by bit_xor (take n bytes) (drop n bytes)
result_of task.Add n bytes = joined_by (λ x y. (x + y) % 256) (take n bytes) (drop n bytes)
result_of task.Sum n bytes = little_endian 8 (sum bytes % 2 ^ 64)
result_of (task.Store64 word) n bytes = little_endian 8 word
result_of (task.Count byte) n bytes = little_endian 8 (count_by (λ x. x == byte) bytes)
result_of task.Nop n bytes = []

-- how many bytes a task reads, for the n that it writes
abbrev pub Suits : Task → ℕ → ℕ → Type 0
Suits (task.Fill byte) reads n = reads ≡ 0
Suits task.Copy reads n = reads ≡ n
Suits task.Rev reads n = reads ≡ n
Suits task.Xor reads n = reads ≡ n + n
Suits task.Add reads n = reads ≡ n + n
Suits task.Sum reads n = n ≡ 8
Suits (task.Store64 word) reads n = (reads ≡ 0) × (n ≡ 8)
Suits (task.Count byte) reads n = n ≡ 8
Suits task.Nop reads n = (reads ≡ 0) × (n ≡ 0)

-- the same where they are read from two ranges, of which only xor and add use the second
abbrev pub SuitsTwo : Task → ℕ → ℕ → ℕ → Type 0
SuitsTwo task.Xor first second n = (first ≡ n) × (second ≡ n)
SuitsTwo task.Add first second n = (first ≡ n) × (second ≡ n)
SuitsTwo other first second n = Suits other first n × (second ≡ 0)
