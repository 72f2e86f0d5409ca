-- Words that only grow come nearer to their greatest value.
use Rattle.std.proofs.Common.{◌≡◌, ◌≢◌, ℕ, zero, suc, ◌^◌, ◌<◌, ◌≤◌, inl, inr, List, [], ◌∷◌, length, refl, ◌∙◌, ap, arith, slice_index}
use Rattle.std.specs.Global.{Vec}
use Rattle.std.proofs.lemmas.Bool.{cases_lt}
use Rattle.hq_rows.specs.Matrix.{row, Differ, lag_of_words, lag_of_rows}
use Rattle.hq_bits.specs.Bits.{Grown}

lag_words_le : (old new : List ℕ) → length new ≡ length old → ((i : ℕ) → slice_index old i ≤ slice_index new i) → lag_of_words new ≤ lag_of_words old
lag_words_le [] [] e h = omega arith
lag_words_le [] (y ∷ ys) e h = absurd (omega arith)
lag_words_le (x ∷ xs) [] e h = absurd (omega arith)
lag_words_le (x ∷ xs) (y ∷ ys) e h =
    let rest : lag_of_words ys ≤ lag_of_words xs = lag_words_le xs ys (omega arith) (λ i. h (suc i)) in
    let here : x ≤ y = h zero in
    omega arith

lag_words_same : (old new : List ℕ) → length new ≡ length old → ((i : ℕ) → slice_index old i ≤ slice_index new i) → ((i : ℕ) → slice_index new i < 2 ^ 64) → lag_of_words old ≤ lag_of_words new → new ≡ old
lag_words_same [] [] e h s l = refl
lag_words_same [] (y ∷ ys) e h s l = absurd (omega arith)
lag_words_same (x ∷ xs) [] e h s l = absurd (omega arith)
lag_words_same (x ∷ xs) (y ∷ ys) e h s l =
    let rest : lag_of_words ys ≤ lag_of_words xs = lag_words_le xs ys (omega arith) (λ i. h (suc i)) in
    let here : x ≤ y = h zero in
    let small : y < 2 ^ 64 = s zero in
    let heads : y ≡ x = omega arith in
    let tails : lag_of_words xs ≤ lag_of_words ys = omega arith in
    ap (λ z. z ∷ ys) heads ∙ ap (λ zs. x ∷ zs) (lag_words_same xs ys (omega arith) (λ i. h (suc i)) (λ i. s (suc i)) tails)

lag_words_fall : (old new : List ℕ) → Grown old new → ((i : ℕ) → slice_index new i < 2 ^ 64) → new ≢ old → lag_of_words new < lag_of_words old
lag_words_fall old new g s apart = elim (cases_lt (lag_of_words new) (lag_of_words old)) [
  | inl l ↦ l
  | inr h ↦ absurd (apart (lag_words_same old new g.len g.words s h))
]

lag_rows_le : (old new : List (Vec ℕ)) → length new ≡ length old → ((r : ℕ) → Grown (row old r) (row new r)) → lag_of_rows new ≤ lag_of_rows old
lag_rows_le [] [] e g = omega arith
lag_rows_le [] (y ∷ ys) e g = absurd (omega arith)
lag_rows_le (x ∷ xs) [] e g = absurd (omega arith)
lag_rows_le (x ∷ xs) (y ∷ ys) e g =
    let rest : lag_of_rows ys ≤ lag_of_rows xs = lag_rows_le xs ys (omega arith) (λ r. g (suc r)) in
    let here : lag_of_words y.items ≤ lag_of_words x.items = lag_words_le x.items y.items (g zero).len (g zero).words in
    omega arith

lag_rows_fall : (old new : List (Vec ℕ)) (r : ℕ) → length new ≡ length old → ((r : ℕ) → Grown (row old r) (row new r)) → r < length old → lag_of_words (row new r) < lag_of_words (row old r) → lag_of_rows new < lag_of_rows old
lag_rows_fall [] new r e g l f = absurd (omega arith)
lag_rows_fall (x ∷ xs) [] r e g l f = absurd (omega arith)
lag_rows_fall (x ∷ xs) (y ∷ ys) zero e g l f =
    let rest : lag_of_rows ys ≤ lag_of_rows xs = lag_rows_le xs ys (omega arith) (λ r. g (suc r)) in
    let here : lag_of_words y.items < lag_of_words x.items = f in
    omega arith
lag_rows_fall (x ∷ xs) (y ∷ ys) (suc r) e g l f =
    let rest : lag_of_rows ys < lag_of_rows xs = lag_rows_fall xs ys r (omega arith) (λ r. g (suc r)) (omega arith) f in
    let here : lag_of_words y.items ≤ lag_of_words x.items = lag_words_le x.items y.items (g zero).len (g zero).words in
    omega arith

-- rows that grew and aren't the same are nearer
pub lag_falls : (old new : List (Vec ℕ)) → length new ≡ length old → ((r : ℕ) → Grown (row old r) (row new r)) → Differ new old → lag_of_rows new < lag_of_rows old
lag_falls old new e g d = lag_rows_fall old new d.r e g (let l : d.r < length new = d.low in omega arith) (lag_words_fall (row old d.r) (row new d.r) (g d.r) d.small d.apart)
