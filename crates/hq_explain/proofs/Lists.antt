-- Lists by places.
use Rattle.std.proofs.Common.{◌≡◌, ℕ, List, [], ◌∷◌, ◌++◌, length, Some, slice_get, sym, ap, subst, ◌∙◌, inl, inr, arith}
use Rattle.std.proofs.lemmas.Bool.{cases_lt}
use Rattle.std.proofs.lemmas.List.{get_or_push, get_or_append_left, length_push}
use Rattle.std.proofs.lemmas.Option.{slice_get_within, slice_get-get_or, get_or_from_slice_get}

-- what holds of each element holds once one more that it holds of is put behind them
pub each_push : {X : Type 0} (P : ℕ → X → Type 0) (xs : List X) (x : X) → ((k : ℕ) (y : X) → slice_get xs k ≡ Some y → P k y) → P (length xs) x → (k : ℕ) (y : X) → slice_get (xs ++ x ∷ []) k ≡ Some y → P k y
each_push P xs x h p k y e =
    let low = slice_get_within (xs ++ x ∷ []) k y e in
    let more = length_push xs x in
    elim (cases_lt k (length xs)) [
      | inl inside ↦
          let is : slice_get xs k ≡ Some y = slice_get-get_or xs k y inside ∙ sym (slice_get-get_or (xs ++ x ∷ []) k y low ∙ ap Some (get_or_append_left xs (x ∷ []) y k inside)) ∙ e in
          h k y is
      | inr last ↦
          let here : length xs ≡ k = omega arith in
          let is : x ≡ y = sym (get_or_push xs x y k here) ∙ get_or_from_slice_get (xs ++ x ∷ []) k y y e in
          subst (λ j. P j y) here (subst (P (length xs)) is p)
    ]
