-- The first line of a text, and the text behind it.
use Rattle.std.proofs.Common.{◌≡◌, ℕ, zero, suc, ◌+◌, ◌-◌, ◌<◌, ◌≤◌, ◌==◌, Bool, true, false, cond, ltb, List, [], ◌∷◌, length, take, drop, Option, Some, None, inl, inr, refl, sym, ap, subst, ◌∙◌, arith, length-drop}
use Rattle.std.specs.Prelude.{position}
use Rattle.std.specs.List.{slice_split, position_or_len}
use Rattle.std.proofs.lemmas.List.Splits.{slice_split_first, slice_split_none}
use Rattle.std.proofs.lemmas.List.Sums.{fails_before_first}
use Rattle.std.proofs.lemmas.List.Quantifiers.{position-Some}
use Rattle.std.proofs.lemmas.Bool.{ltb-true, ltb-false, cases_lt}
use Rattle.memchr.specs.Find.{IsFirstByte, is_byte}
use Rattle.hq_text.specs.Lines.{is_line_feed, lines_of, without_empty_last}

pub all_of : {X : Type 0} (xs : List X) (n : ℕ) → length xs ≤ n → take n xs ≡ xs
all_of [] zero le = refl
all_of [] (suc n) le = refl
all_of (x ∷ xs) zero le = absurd (omega arith)
all_of (x ∷ xs) (suc n) le = ap (λ ys. x ∷ ys) (all_of xs n (omega arith))

-- there is a last part
pub record Parts (parts : List (List ℕ)) : Type 0 where
  pub first : List ℕ
  pub others : List (List ℕ)
  pub is : parts ≡ first ∷ others

pub parts_of : (p : ℕ → Bool) (xs : List ℕ) → Parts (slice_split p xs)
parts_of p [] = record { first = []; others = []; is = refl }
parts_of p (x ∷ xs) = by (p x) (parts_of p xs) where
  by : (b : Bool) → Parts (slice_split p xs) → Parts (cond b ([] ∷ slice_split p xs) (Rattle.std.specs.List.onto_first x (slice_split p xs)))
  by true r = record { first = []; others = slice_split p xs; is = refl }
  by false r = record { first = x ∷ r.first; others = r.others; is = ap (Rattle.std.specs.List.onto_first x) r.is }

pub without : (x : List ℕ) (parts : List (List ℕ)) → Parts parts → without_empty_last (x ∷ parts) ≡ x ∷ without_empty_last parts
without [] parts r = rw r.is refl
without (b ∷ x) parts r = rw r.is refl

pub first_place : {X : Type 0} (p : X → Bool) (xs : List X) (at : ℕ) → position p xs ≡ Some at → (position_or_len p xs ≡ at) × (at < length xs)
first_place p xs at e = by (ltb (position_or_len p xs) (length xs)) refl e where
  by : (b : Bool) → ltb (position_or_len p xs) (length xs) ≡ b → cond b (Some (position_or_len p xs)) None ≡ Some at → (position_or_len p xs ≡ at) × (at < length xs)
  by true is e = let same : position_or_len p xs ≡ at = cc in (same, let lt = ltb-true (position_or_len p xs) (length xs) is in omega arith)
  by false is e = absurd cc

pub no_place : {X : Type 0} (p : X → Bool) (xs : List X) → position p xs ≡ None → length xs ≤ position_or_len p xs
no_place p xs e = by (ltb (position_or_len p xs) (length xs)) refl e where
  by : (b : Bool) → ltb (position_or_len p xs) (length xs) ≡ b → cond b (Some (position_or_len p xs)) None ≡ None → length xs ≤ position_or_len p xs
  by true is e = absurd cc
  by false is e = ltb-false (position_or_len p xs) (length xs) is

-- a list is cut where its first element that passes stands, and stays whole where none does
pub cut_at : {X : Type 0} (p : X → Bool) (xs : List X) (d : X) (at n : ℕ) → position p xs ≡ Some at → n ≡ length xs - (at + 1) → slice_split p xs ≡ take at xs ∷ slice_split p (take n (drop (at + 1) xs))
cut_at p xs d at n e len =
    let place = first_place p xs at e in
    let lt : position_or_len p xs < length xs = omega (arith, place.0, place.1) in
    let whole : take n (drop (at + 1) xs) ≡ drop (at + 1) xs = all_of (drop (at + 1) xs) n (omega (arith, length-drop (at + 1) xs)) in
    subst (λ (k : ℕ). slice_split p xs ≡ take k xs ∷ slice_split p (drop (k + 1) xs)) place.0 (slice_split_first p xs d lt) ∙ ap (λ t. take at xs ∷ slice_split p t) (sym whole)

pub uncut : {X : Type 0} (p : X → Bool) (xs : List X) → position p xs ≡ None → slice_split p xs ≡ xs ∷ []
uncut p xs e = let le = no_place p xs e in slice_split_none p xs (λ k x h. fails_before_first p xs k x (omega arith))

pub cut_line : (text : List ℕ) (at n : ℕ) → position is_line_feed text ≡ Some at → n ≡ length text - (at + 1)
    → lines_of text ≡ take at text ∷ lines_of (take n (drop (at + 1) text))
cut_line text at n e len =
    let behind : List ℕ = take n (drop (at + 1) text) in
    ap without_empty_last (cut_at is_line_feed text 0 at n e len) ∙ without (take at text) (slice_split is_line_feed behind) (parts_of is_line_feed behind)

kept : (text : List ℕ) → 0 < length text → without_empty_last (text ∷ []) ≡ text ∷ []
kept [] lt = absurd (omega arith)
kept (b ∷ bs) lt = refl

pub gone : (text : List ℕ) (n : ℕ) → take n (drop (length text) text) ≡ []
gone [] zero = refl
gone [] (suc n) = refl
gone (b ∷ bs) n = gone bs n

pub last_line : (text : List ℕ) (n : ℕ) → position is_line_feed text ≡ None → 0 < length text
    → lines_of text ≡ text ∷ lines_of (take n (drop (length text) text))
last_line text n e lt =
    ap without_empty_last (uncut is_line_feed text e) ∙ kept text lt ∙ ap (λ t. text ∷ lines_of t) (sym (gone text n))

-- The first place that a search of bytes finds is the position.
pub position_is : (n : ℕ) (xs : List ℕ) (r : Option ℕ) → IsFirstByte (is_byte n) xs r → r ≡ position (λ b. b == n) xs
position_is n xs r found = by (position p xs) refl r found
  where
    p : ℕ → Bool
    p b = b == n

    by : (at : Option ℕ) → position p xs ≡ at → (r : Option ℕ) → IsFirstByte (is_byte n) xs r → r ≡ position p xs
    by None e None none = sym e
    by None e (Some k) (first, passes) = let fails = fails_before_first p xs k 0 (let le = no_place p xs e in let l = first.high in omega arith) in absurd cc
    by (Some i) e None none = let place = position-Some p xs i 0 e in absurd (none i (omega arith) place.0 place.1)
    by (Some i) e (Some k) (first, passes) =
        let place = position-Some p xs i 0 e in
        elim (cases_lt k i) [
          | inl l ↦ let fails = place.2 k l in absurd cc
          | inr ge ↦ elim (cases_lt i k) [
            | inl l ↦ absurd (first.before i (omega arith) l place.1)
            | inr le ↦ (let same : k ≡ i = omega (arith, ge, le) in ap (λ m. Some m) same ∙ sym e)
          ]
        ]
