-- Bytes that are read at once, and one more that is read by itself.
use Rattle.std.proofs.Common.{◌≡◌, ℕ, zero, suc, ◌+◌, ◌<◌, ◌⊎◌, inl, inr, List, [], ◌∷◌, ◌++◌, Option, Some, None, is_some, length, map, filter, cond, eqb, count_by, set, get_or, refl, sym, ◌∙◌, ap, subst, arith, length-set}
use Rattle.std.proofs.lemmas.Bool.{true≢false}
use Rattle.std.proofs.lemmas.List.{append-nil, nil_from_length, length-map}
use Rattle.std.proofs.lemmas.List.Sums.{length-filter, sum_by-set}
use Rattle.hq_events.specs.Rows.{NextRow}
use Rattle.hq_events.proofs.Places.{row_set}

counted : (w : List ℕ) → length (filter {X = Option ℕ} is_some (map Some w)) ≡ length w
counted [] = refl
counted (x ∷ w) = ap suc (counted w)

alone : (w : List ℕ) (b : List (Option ℕ)) → length b ≡ 0 → map Some w ++ b ≡ map Some w
alone w b none = ap (λ x. map Some w ++ x) (nil_from_length b none) ∙ append-nil (map Some w)

pub whole_count : (w : List ℕ) (b : List (Option ℕ)) → length b ≡ 0 → count_by is_some (map Some w ++ b) ≡ length w
whole_count w b none = ap (count_by {X = Option ℕ} is_some) (alone w b none) ∙ sym (length-filter {X = Option ℕ} is_some (map Some w)) ∙ counted w

there : (w : List ℕ) (i : ℕ) → i < length w → get_or (map Some w) i None ≡ None → ⊥
there [] i l n = absurd (omega arith)
there (x ∷ w) zero l n = true≢false (ap {A = Option ℕ} is_some n)
there (x ∷ w) (suc i) l n = there w i (omega arith) n

-- where an entry is unread, the bytes weren't read at once
pub no_whole : (w : List ℕ) (b : List (Option ℕ)) (i : ℕ) → (length w ≡ 0) ⊎ (length b ≡ 0) → i < length (map Some w ++ b) → get_or (map Some w ++ b) i None ≡ None → w ≡ []
no_whole w b i (inl e) l n = nil_from_length w e
no_whole w b i (inr e) l n =
    let low : i < length w = omega (arith, subst (λ (xs : List (Option ℕ)). i < length xs) (alone w b e) l, length-map {B = Option ℕ} w Some) in
    absurd (there w i low (subst (λ (xs : List (Option ℕ)). get_or xs i None ≡ None) (alone w b e) n))

-- one entry more is read
pub one_counted : (b : List (Option ℕ)) (i x : ℕ) → i < length b → get_or b i None ≡ None → count_by is_some (set b i (Some x)) ≡ count_by is_some b + 1
one_counted b i x l n =
    let f : Option ℕ → ℕ = λ o. cond (is_some o) 1 0 in
    let e = sum_by-set f b i (Some x) None l in
    let z : f (get_or b i None) ≡ 0 = ap f n in
    omega (arith, e, z)

-- the row after a read, once there is room for its entries
pub next_row : (old opened : List (Option ℕ)) (total i byte : ℕ) → length opened ≡ total → ((j : ℕ) → get_or opened j None ≡ get_or old j None) → i < total → NextRow old total i byte (set opened i (Some byte))
next_row old opened total i byte e same l = record {
  whole = length-set opened i (Some byte) ∙ e;
  entry = λ j. row_set opened i (Some byte) None (omega arith) j ∙ ap (λ o. cond (eqb j i) (Some byte) o) (same j);
}
