-- Where two traces differ.
use Rattle.std.specs.Prelude.{◌≡◌, ◌≢◌, ℕ, ◌<◌, List, length, slice_index_or}
use Rattle.hq_witness.specs.declared.difference.Difference.{Difference}
use Rattle.hq_witness.specs.declared.origin.Origin.{Origin}
use Rattle.hq_witness.specs.declared.place.Place.{Place}
use Rattle.hq_witness.specs.declared.place.Place.TheVariants as place
use Rattle.hq_witness.specs.declared.trace.Sighting.{Sighting}
use Rattle.hq_witness.specs.declared.trace.Trace.{Trace}

-- it is one of the list
abbrev pub Has : List Sighting → Sighting → Type 0
Has xs s = (k : ℕ) × (k < length xs) × (s ≡ slice_index_or xs k s)

-- The trace has this origin for the place.
abbrev pub TellsAt : Trace → Place → Origin → Type 0
TellsAt t (place.Read p i) x = Has t.reads.items (record { packet = p; entry = i; origin = x })
TellsAt t (place.Memory b) x = (b ≡ t.byte) × (t.memory ≡ x)

-- Each trace has the origin that is told of, and the two differ.
pub record TellApart (good bad : Trace) (d : Difference) : Type 0 where
  pub in_good : TellsAt good d.place d.good
  pub in_bad : TellsAt bad d.place d.bad
  pub differ : d.good ≢ d.bad

-- two reads of the same entry by the same packet that had other origins
pub record AreOther (s other : Sighting) : Type 0 where
  pub packet : other.packet ≡ s.packet
  pub entry : other.entry ≡ s.entry
  pub origin : s.origin ≢ other.origin

-- No entry that a packet has read had one origin in the one trace and another in the other.
abbrev pub SameReads : Trace → Trace → Type 0
SameReads good bad = (s other : Sighting) → Has good.reads.items s → Has bad.reads.items other → ¬ AreOther s other

-- Nor has memory, if both are of one byte.
pub record Agree (good bad : Trace) : Type 0 where
  pub reads : SameReads good bad
  pub memory : good.byte ≡ bad.byte → good.memory ≡ bad.memory
