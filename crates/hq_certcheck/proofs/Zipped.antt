-- The signals of slots and the branches for them, place by place.
use Rattle.std.proofs.Common.{◌≡◌, ℕ, suc, ◌+◌, ◌<◌, ◌≤◌, ◌↔◌, List, [], ◌∷◌, length, drop, refl, ◌∙◌, ap, subst, arith, Option, Some, None, slice_index_or, IsTrue, ◌==◌}
use Rattle.std.specs.List.{AllZip}
use Rattle.std.proofs.Math.Seq.{drop-cons}
use Rattle.std.proofs.lemmas.Bool.{eq-eqb, eqb-true}
use Rattle.std.proofs.lemmas.List.{length-drop, drop_all}
use Rattle.hq_model.specs.Certificate.{signals}

signals_pass : (slots : List (Option ℕ)) (i : ℕ) → i < length slots → slice_index_or slots i None ≡ None → signals (drop i slots) ≡ signals (drop (i + 1) slots)
signals_pass slots i l e =
    let next : suc i ≡ i + 1 = omega arith in
    ap signals (drop-cons slots i None l ∙ ap (λ x. x ∷ drop (suc i) slots) e) ∙ ap (λ k. signals (drop k slots)) next

signals_step : (slots : List (Option ℕ)) (i s : ℕ) → i < length slots → slice_index_or slots i None ≡ Some s → signals (drop i slots) ≡ s ∷ signals (drop (i + 1) slots)
signals_step slots i s l e =
    let next : suc i ≡ i + 1 = omega arith in
    ap signals (drop-cons slots i None l ∙ ap (λ x. x ∷ drop (suc i) slots) e) ∙ ap (λ k. s ∷ signals (drop k slots)) next

items_step : {X : Type 0} (xs : List X) (j : ℕ) (d : X) → j < length xs → drop j xs ≡ slice_index_or xs j d ∷ drop (j + 1) xs
items_step xs j d l =
    let next : suc j ≡ j + 1 = omega arith in
    drop-cons xs j d l ∙ ap (λ k. slice_index_or xs j d ∷ drop k xs) next

module _ {X : Type 0} (R : ℕ → X → Type 0) (slots : List (Option ℕ)) (xs : List X) where
  -- the slots from i on have the branches from j on, exactly where all slots have all branches
  pub record Zipped (i j : ℕ) : Type 0 where
    pub within : j ≤ length xs
    pub same : AllZip R (signals slots) xs ↔ AllZip R (signals (drop i slots)) (drop j xs)

  pub zip_start : Zipped 0 0
  zip_start = record { within = omega arith; same = (λ h. h, λ h. h) }

  pub zip_pass : (i j : ℕ) → Zipped i j → i < length slots → slice_index_or slots i None ≡ None → Zipped (i + 1) j
  zip_pass i j z l e = record {
    within = z.within;
    same = subst (λ ss. AllZip R (signals slots) xs ↔ AllZip R ss (drop j xs)) (signals_pass slots i l e) z.same;
  }

  opened : (i j s : ℕ) (d : X) → Zipped i j → i < length slots → slice_index_or slots i None ≡ Some s → j < length xs → AllZip R (signals slots) xs ↔ AllZip R (s ∷ signals (drop (i + 1) slots)) (slice_index_or xs j d ∷ drop (j + 1) xs)
  opened i j s d z l e m =
      subst (λ ss. AllZip R (signals slots) xs ↔ AllZip R ss (slice_index_or xs j d ∷ drop (j + 1) xs)) (signals_step slots i s l e)
      (subst (λ ys. AllZip R (signals slots) xs ↔ AllZip R (signals (drop i slots)) ys) (items_step xs j d m) z.same)

  pub zip_step : (i j s : ℕ) (d : X) → Zipped i j → i < length slots → slice_index_or slots i None ≡ Some s → j < length xs → R s (slice_index_or xs j d) → Zipped (i + 1) (j + 1)
  zip_step i j s d z l e m r =
      let o = opened i j s d z l e m in
      record { within = omega (arith, m); same = (λ h. (o.0 h).1, λ h. o.1 (r, h)) }

  pub zip_bad : (i j s : ℕ) (d : X) → Zipped i j → i < length slots → slice_index_or slots i None ≡ Some s → j < length xs → (R s (slice_index_or xs j d) → ⊥) → AllZip R (signals slots) xs → ⊥
  zip_bad i j s d z l e m ban h = ban ((opened i j s d z l e m).0 h).0

  pub zip_short : (i j s : ℕ) → Zipped i j → i < length slots → slice_index_or slots i None ≡ Some s → length xs ≤ j → AllZip R (signals slots) xs → ⊥
  zip_short i j s z l e m h =
      subst (λ ys. AllZip R (s ∷ signals (drop (i + 1) slots)) ys) (drop_all j xs m)
      (subst (λ ss. AllZip R ss (drop j xs)) (signals_step slots i s l e) (z.same.0 h))

  none_left : (ys : List X) → AllZip R [] ys ↔ (length ys ≡ 0)
  none_left [] = (λ h. refl, λ h. tt)
  none_left (y ∷ ys) = (λ h. absurd h, λ h. absurd (omega (arith, h)))

  pub zip_end : (i j : ℕ) → Zipped i j → length slots ≤ i → IsTrue (j == length xs) ↔ AllZip R (signals slots) xs
  zip_end i j z l =
      let past : AllZip R (signals slots) xs ↔ AllZip R [] (drop j xs) = subst (λ ss. AllZip R (signals slots) xs ↔ AllZip R (signals ss) (drop j xs)) (drop_all i slots l) z.same in
      let end = none_left (drop j xs) in (
        λ t. past.1 (end.1 (omega (arith, length-drop j xs, eqb-true j (length xs) t))),
        λ h. eq-eqb j (length xs) (omega (arith, length-drop j xs, end.0 (past.0 h), z.within)),
      )

-- a slot in which no signal stands
pub no_signal : (slot : Option ℕ) → ((s : ℕ) → slot ≡ Some s → ⊥) → slot ≡ None
no_signal None ban = refl
no_signal (Some s) ban = absurd (ban s refl)
