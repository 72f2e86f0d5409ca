-- A flag is set exactly where the footprints conflict.
use Rattle.std.proofs.Common.{◌≡◌, ◌⊎◌, ◌||◌, Bool, true, false, refl, inl, inr}
use Rattle.std.specs.Prelude.{IsTrue}
use Rattle.hq_footprint.specs.declared.footprint.Footprint.{Footprint}
use Rattle.hq_footprint.specs.declared.conflicts.Kinds.{Kinds}
use Rattle.hq_footprint.specs.Conflicts.{Conflict, HasKinds}

abbrev SomeFlag : Bool → Bool → Bool → Type 0
SomeFlag x y z = IsTrue x ⊎ (IsTrue y ⊎ IsTrue z)

from_or : (x y z : Bool) → (x || y || z) ≡ true → SomeFlag x y z
from_or true y z e = inl refl
from_or false true z e = inr (inl refl)
from_or false false z e = inr (inr e)

to_or : (x y z : Bool) → SomeFlag x y z → (x || y || z) ≡ true
to_or true y z f = refl
to_or false true z f = refl
to_or false false z (inl e) = cc
to_or false false z (inr (inl e)) = cc
to_or false false z (inr (inr e)) = e

pub set_conflict : (first second : Footprint) (k : Kinds) → HasKinds first second k → (k.wr || k.ww || k.rw) ≡ true → Conflict first second
set_conflict first second k h e = elim (from_or k.wr k.ww k.rw e) [
  | inl a ↦ inl (h.wr.0 a)
  | inr rest ↦ elim rest [ inl b ↦ inr (inl (h.ww.0 b)) | inr c ↦ inr (inr (h.rw.0 c)) ]
]

pub conflict_set : (first second : Footprint) (k : Kinds) → HasKinds first second k → Conflict first second → (k.wr || k.ww || k.rw) ≡ true
conflict_set first second k h (inl a) = to_or k.wr k.ww k.rw (inl (h.wr.1 a))
conflict_set first second k h (inr (inl b)) = to_or k.wr k.ww k.rw (inr (inl (h.ww.1 b)))
conflict_set first second k h (inr (inr c)) = to_or k.wr k.ww k.rw (inr (inr (h.rw.1 c)))
