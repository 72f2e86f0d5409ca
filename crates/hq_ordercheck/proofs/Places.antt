-- Places in a list, from one of them on.
use Rattle.std.proofs.Common.{◌≡◌, ℕ, ◌+◌, ◌<◌, List, length, drop, slice_index}
use Rattle.hq_model.specs.Order.{place}

-- the table has the places that numbers have from place i on
pub record ArePlacedFrom (list : List ℕ) (i n : ℕ) (table : List ℕ) : Type 0 where
  pub count : length table ≡ n
  pub at : (p : ℕ) → p < n → slice_index table p ≡ i + place (drop i list) p
