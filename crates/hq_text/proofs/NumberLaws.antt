-- A word is read as a number exactly where it is what the number prints.
use Rattle.std.proofs.Common.{◌≡◌, ℕ, zero, suc, ◌+◌, ◌-◌, ◌*◌, ◌^◌, ◌<◌, ◌≤◌, Bool, true, false, cond, eqb, ltb, List, [], ◌∷◌, length, get_or, Option, Some, None, refl, sym, ap, subst, ◌∙◌, arith}
use Rattle.std.specs.Prelude.{◌&&◌, IfSome, IfNone}
use Rattle.std.specs.Fmt.{decimal}
use Rattle.std.specs.Str.{all_ascii_digits}
use Rattle.std.proofs.lemmas.Fmt.{decimal-digits_value, digits_decimal, digits_value-decimal, decimal_digit, first_decimal}
use Rattle.std.proofs.lemmas.Str.Parse.{IsNumeralModel, numerals_by_fold, tells_all_ascii_digits}
use Rattle.std.proofs.lemmas.Bool.{eqb-true, eqb-false, ltb-true, lt-ltb}
use Rattle.hq_text.specs.Numbers.{IsNumber, is_digit, read_on, number_of}
use Rattle.hq_text.proofs.InTurn.{both}

abbrev value : ℕ → List ℕ → ℕ
value n [] = n
value n (d ∷ ds) = value (n * 10 + (d - 48)) ds

own : IsNumeralModel (λ ds. all_ascii_digits ds ≡ true) (value 0)
own = numerals_by_fold _ tells_all_ascii_digits value (record { empty = λ n. refl; more = λ n c cs h. refl })

grows : (n : ℕ) (ds : List ℕ) → n ≤ value n ds
grows n [] = omega arith
grows n (d ∷ ds) = let more = grows (n * 10 + (d - 48)) ds in omega arith

guarded : (b : Bool) (r : Option ℕ) (m : ℕ) → cond b r None ≡ Some m → (b ≡ true) × (r ≡ Some m)
guarded true r m e = (refl, e)
guarded false r m e = absurd cc

record Read (n : ℕ) (ds : List ℕ) (m : ℕ) : Type 0 where
  digits : all_ascii_digits ds ≡ true
  same : value n ds ≡ m
  small : m < 2 ^ 64

some_is : (n m : ℕ) → Some n ≡ Some m → n ≡ m
some_is n m e = cc

read_some : (n : ℕ) (ds : List ℕ) (m : ℕ) → n < 2 ^ 64 → read_on n ds ≡ Some m → Read n ds m
read_some n [] m lt e = let same = some_is n m e in record { digits = refl; same = same; small = subst (λ (k : ℕ). k < 2 ^ 64) same lt }
read_some n (d ∷ ds) m lt e =
    let g = guarded (is_digit d && ltb (n * 10 + (d - 48)) (2 ^ 64)) (read_on (n * 10 + (d - 48)) ds) m e in
    let t = both (is_digit d) (ltb (n * 10 + (d - 48)) (2 ^ 64)) g.0 in
    let r = read_some (n * 10 + (d - 48)) ds m (ltb-true (n * 10 + (d - 48)) (2 ^ 64) t.1) g.1 in
    record { digits = rw t.0 r.digits; same = r.same; small = r.small }

reads : (n : ℕ) (ds : List ℕ) → all_ascii_digits ds ≡ true → value n ds < 2 ^ 64 → read_on n ds ≡ Some (value n ds)
reads n [] h lt = refl
reads n (d ∷ ds) h lt =
    let t = both (is_digit d) (all_ascii_digits ds) h in
    let more = grows (n * 10 + (d - 48)) ds in
    let fits : ltb (n * 10 + (d - 48)) (2 ^ 64) ≡ true = lt-ltb (n * 10 + (d - 48)) (2 ^ 64) (omega arith) in
    rw (t.0, fits) (reads (n * 10 + (d - 48)) ds t.1 lt)

alone : (d : ℕ) (ds : List ℕ) (n : ℕ) → d ≡ 48 → cond (eqb (length ds) 0) (Some 0) None ≡ Some n → IsNumber (d ∷ ds) n
alone d [] n is e = let same = some_is 0 n e in (rw (is, ← same) (sym (decimal_digit 0 (omega arith))), omega arith)
alone d (x ∷ ds) n is e = let g = guarded (eqb (length (x ∷ ds)) 0) (Some 0) n e in absurd (omega (arith, eqb-true (length (x ∷ ds)) 0 g.0))

not_zero_first : (d : ℕ) (ds : List ℕ) (n : ℕ) → (d ≡ 48 → ⊥) → read_on 0 (d ∷ ds) ≡ Some n → IsNumber (d ∷ ds) n
not_zero_first d ds n other e =
    let r = read_some 0 (d ∷ ds) n (omega arith) e in
    let printed = decimal-digits_value own (d ∷ ds) r.digits (omega arith) (λ is. absurd (other is)) (subst (λ (k : ℕ). k < 2 ^ 64) (sym r.same) r.small) in
    (sym printed ∙ ap decimal r.same, r.small)

number_found : (word : List ℕ) (n : ℕ) → number_of word ≡ Some n → IsNumber word n
unfolding number_of
number_found [] n e = absurd cc
number_found (d ∷ ds) n e = by (eqb d 48) refl e where
  by : (b : Bool) → eqb d 48 ≡ b → cond b (cond (eqb (length ds) 0) (Some 0) None) (read_on 0 (d ∷ ds)) ≡ Some n → IsNumber (d ∷ ds) n
  by true is e = alone d ds n (eqb-true d 48 is) e
  by false is e = not_zero_first d ds n (eqb-false d 48 is) e

by_first : (word : List ℕ) (n : ℕ) → 48 < get_or word 0 0 → read_on 0 word ≡ Some n → number_of word ≡ Some n
unfolding number_of
by_first [] n lt e = absurd (omega arith)
by_first (d ∷ ds) n lt e = by (eqb d 48) refl where
  by : (b : Bool) → eqb d 48 ≡ b → cond b (cond (eqb (length ds) 0) (Some 0) None) (read_on 0 (d ∷ ds)) ≡ Some n
  by true is = absurd (omega (arith, eqb-true d 48 is))
  by false is = e

zero_is : number_of (48 ∷ []) ≡ Some 0
unfolding number_of
zero_is = refl

number_printed : (n : ℕ) → n < 2 ^ 64 → number_of (decimal n) ≡ Some n
number_printed zero lt = ap number_of (decimal_digit 0 (omega arith)) ∙ zero_is
number_printed (suc n) lt =
    let same = digits_value-decimal own (suc n) lt in
    let read = reads 0 (decimal (suc n)) (digits_decimal own (suc n) lt) (subst (λ (k : ℕ). k < 2 ^ 64) (sym same) lt) in
    by_first (decimal (suc n)) (suc n) (first_decimal (suc n) (omega arith) lt) (read ∙ ap (λ k. Some k) same)

pub number_only : (word : List ℕ) (n : ℕ) → IsNumber word n → number_of word ≡ Some n
number_only word n h = ap number_of h.0 ∙ number_printed n h.1

pub number_tells : (word : List ℕ) (r : Option ℕ) → r ≡ number_of word → IfSome r (λ n. IsNumber word n)
number_tells word (Some n) e = number_found word n (sym e)
number_tells word None e = tt

pub number_none : (word : List ℕ) (r : Option ℕ) → r ≡ number_of word → IfNone r ((n : ℕ) → IsNumber word n → ⊥)
number_none word (Some n) e = tt
number_none word None e = λ n h. let some = number_only word n h in absurd cc
