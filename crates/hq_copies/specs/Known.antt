-- Sets of lanes, as bits: those that hold bytes, and those that hold dirty ones.
use Rattle.std.specs.Prelude.{◌≡◌, ℕ, ◌*◌, ◌^◌, ◌≤◌, List, true, is_some, IsTrue, length}
use Rattle.hq_bits.specs.Bits.{has}
use Rattle.hq_model.specs.Machine.{is_dirty}
use Rattle.hq_model.specs.View.{Held, copies_of}

-- There is a bit for each of so many lanes.
pub record HasRoom (count : ℕ) (set : List ℕ) : Type 0 where
  pub lanes : count ≤ length set * 64
  pub few : length set ≤ 2 ^ 58

-- the set has all lanes that hold a byte
abbrev pub HasHolding : List Held → List ℕ → Type 0
HasHolding lanes set = (k b : ℕ) → is_some (copies_of lanes k b) ≡ true → IsTrue (has set k)

-- the set has all lanes that hold a dirty byte
abbrev pub HasDirty : List Held → List ℕ → Type 0
HasDirty lanes set = (k b : ℕ) → is_dirty (copies_of lanes k b) ≡ true → IsTrue (has set k)

-- The one set has all lanes that hold a byte, the other all that hold a dirty one.
pub record AreKnown (lanes : List Held) (holding marked : List ℕ) : Type 0 where
  pub held : HasHolding lanes holding
  pub dirty : HasDirty lanes marked
  pub holding_room : HasRoom (length lanes) holding
  pub marked_room : HasRoom (length lanes) marked
