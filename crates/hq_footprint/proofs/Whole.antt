-- Of the ranges of a footprint, all fit or one passes, and all are inside or one is outside.
use Rattle.std.proofs.Common.{suc, ◌+◌, ◌^◌, ◌⊎◌, List, [], ◌∷◌, refl, subst, inl, inr, arith}
use Rattle.std.specs.Prelude.{All, Any}
use Rattle.std.proofs.lemmas.List.Elements.{All-cons, All-nil}
use Rattle.std.proofs.lemmas.Bool.{cases_lt}
use Rattle.hq_footprint.specs.declared.footprint.Range.{Range}
use Rattle.hq_footprint.specs.Bytes.{Passes, Fits, IsWithin, IsInside, IsOutside}

-- one more element ahead
any_later : {X : Type 0} (P : X → Type 0) (x : X) (xs : List X) → Any P xs → Any P (x ∷ xs)
any_later P x xs (k, y, lt, e, p) = (suc k, y, omega arith, e, p)

-- all have the one property, or one has the other
all_or_any : {X : Type 0} (P Q : X → Type 0) → ((x : X) → P x ⊎ Q x) → (xs : List X) → All P xs ⊎ Any Q xs
all_or_any P Q cases [] = inl (All-nil P)
all_or_any P Q cases (x ∷ xs) = elim (cases x) [
  | inl p ↦ elim (all_or_any P Q cases xs) [ inl ps ↦ inl (All-cons P x xs p ps) | inr q ↦ inr (any_later Q x xs q) ]
  | inr q ↦ inr (0, x, omega arith, refl, q)
]

not_both : {X : Type 0} (P Q : X → Type 0) → ((x : X) → P x → Q x → ⊥) → (xs : List X) → All P xs → Any Q xs → ⊥
not_both P Q apart xs all (k, x, lt, e, q) = apart x (subst P e (all k x lt)) q

-- ---- the last address

fits_or_passes : (r : Range) → Fits r ⊎ Passes r
fits_or_passes r = elim (cases_lt (2 ^ 64) (r.at + r.len)) [ inl lt ↦ inr lt | inr le ↦ inl le ]

pub some_passes : (rs : List Range) → (All Fits rs → ⊥) → Any Passes rs
some_passes rs not_all = elim (all_or_any Fits Passes fits_or_passes rs) [ inl all ↦ absurd (not_all all) | inr any ↦ any ]

-- ---- the buffers

within_or_not : (r buffer : Range) → IsWithin r buffer ⊎ (IsWithin r buffer → ⊥)
within_or_not r buffer = elim (cases_lt r.at buffer.at) [
  | inl below ↦ inr (λ w. omega (arith, w.begins))
  | inr begins ↦ elim (cases_lt (buffer.at + buffer.len) (r.at + r.len)) [ inl above ↦ inr (λ w. omega (arith, w.ends)) | inr ends ↦ inl (record { begins = begins; ends = ends }) ]
]

inside_or_outside : (buffers : List Range) (r : Range) → IsInside buffers r ⊎ IsOutside buffers r
inside_or_outside buffers r = elim (cases_lt 0 r.len) [
  | inr none ↦ inl (record { within = λ some. absurd (omega arith) })
  | inl some ↦ elim (all_or_any (λ b. IsWithin r b → ⊥) (IsWithin r) (λ b. elim (within_or_not r b) [ inl w ↦ inr w | inr n ↦ inl n ]) buffers) [
    | inl none ↦ inr (record { some_byte = some; in_none = not_both (λ b. IsWithin r b → ⊥) (IsWithin r) (λ b n w. n w) buffers none })
    | inr any ↦ inl (record { within = λ s. any })
  ]
]

pub some_outside : (buffers rs : List Range) → (All (IsInside buffers) rs → ⊥) → Any (IsOutside buffers) rs
some_outside buffers rs not_all = elim (all_or_any (IsInside buffers) (IsOutside buffers) (inside_or_outside buffers) rs) [ inl all ↦ absurd (not_all all) | inr any ↦ any ]
