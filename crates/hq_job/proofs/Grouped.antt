-- Each place of a list has one number among the grouped, and each number one place.
use Rattle.std.proofs.Common.{◌≡◌, ℕ, zero, suc, ◌+◌, ◌<◌, ◌≤◌, ◌≢◌, inl, inr, List, [], ◌∷◌, ◌++◌, length, refl, ◌∙◌, ap, subst, arith, Bool, true, false, cond, ◌==◌, Some, slice_get, slice_index, filter, map, take, length-append, ◌-◌, append-nil, add-one}
use Rattle.std.proofs.lemmas.Bool.{cases_eq, cases_lt, cond-true, eq-eqb, eqb-true, ne_eqb, cond-false}
use Rattle.std.proofs.lemmas.Grind.{flat_map-append}
use Rattle.std.proofs.lemmas.List.{map-append}
use Rattle.hq_model.specs.Journal.{numbers}
use Rattle.hq_job.specs.Numbering.{with_key, grouped, number_of}
use Rattle.hq_tables.proofs.Lists.{some_is, within}

pub get_after : {X : Type 0} (xs ys : List X) (i : ℕ) → slice_get (xs ++ ys) (length xs + i) ≡ slice_get ys i
get_after [] ys i = ap (slice_get ys) (omega arith)
get_after (x ∷ xs) ys i = let e : suc (length xs) + i ≡ suc (length xs + i) = omega arith in rw e (get_after xs ys i)

pub get_before : {X : Type 0} (xs ys : List X) (i : ℕ) → i < length xs → slice_get (xs ++ ys) i ≡ slice_get xs i
get_before [] ys i l = absurd (omega arith)
get_before (x ∷ xs) ys zero l = refl
get_before (x ∷ xs) ys (suc i) l = get_before xs ys i (omega arith)

-- ---- filters

-- the k-th of a list passes as the next behind those that pass ahead of it
pub get_filtered : {X : Type 0} (test : X → Bool) (xs : List X) (k : ℕ) (x : X) → slice_get xs k ≡ Some x → test x ≡ true → slice_get (filter test xs) (length (filter test (take k xs))) ≡ Some x
get_filtered test [] k x e t = absurd (cc)
get_filtered test (y ∷ ys) zero x e t =
    let same : y ≡ x = some_is y x e in
    rw (cond-true (test y) (y ∷ filter test ys) (filter test ys) (ap test same ∙ t)) e
get_filtered {X} test (y ∷ ys) (suc k) x e t = go (test y) (get_filtered test ys k x e t)
  where
    go : (b : Bool) → slice_get (filter test ys) (length (filter test (take k ys))) ≡ Some x → slice_get (cond b (y ∷ filter test ys) (filter test ys)) (length (cond b (y ∷ filter test (take k ys)) (filter test (take k ys)))) ≡ Some x
    go true h = h
    go false h = h

-- and each that passes is such a one
pub record Passes {X : Type 0} (test : X → Bool) (xs : List X) (i : ℕ) : Type 0 where
  pub k : ℕ
  pub x : X
  pub there : slice_get xs k ≡ Some x
  pub passes : test x ≡ true
  pub ahead : length (filter test (take k xs)) ≡ i

filtered_from : {X : Type 0} (test : X → Bool) (xs : List X) (i : ℕ) → i < length (filter test xs) → Passes test xs i
filtered_from test [] i l = absurd (omega arith)
filtered_from {X} test (y ∷ ys) i l = go (test y) i refl (λ j. filtered_from test ys j) l
  where
    go : (b : Bool) (i : ℕ) → test y ≡ b → ((j : ℕ) → j < length (filter test ys) → Passes test ys j) → i < length (cond b (y ∷ filter test ys) (filter test ys)) → Passes test (y ∷ ys) i
    go true zero t more l = record { k = 0; x = y; there = refl; passes = t; ahead = refl }
    go true (suc i) t more l =
        let found = more i (omega arith) in
        record { k = suc found.k; x = found.x; there = found.there; passes = found.passes; ahead = rw (cond-true (test y) (y ∷ filter test (take found.k ys)) (filter test (take found.k ys)) t) (ap suc found.ahead) }
    go false i t more l =
        let found = more i l in
        record { k = suc found.k; x = found.x; there = found.there; passes = found.passes; ahead = rw (cond-false (test y) (y ∷ filter test (take found.k ys)) (filter test (take found.k ys)) t) found.ahead }

-- ---- groups

pub grouped_more : {X : Type 0} (key : X → ℕ) (n : ℕ) (xs : List X) → grouped key (suc n) xs ≡ grouped key n xs ++ with_key key xs n
grouped_more key n xs = flat_map-append (with_key key xs) (numbers n) (n ∷ []) ∙ ap (λ ys. grouped key n xs ++ ys) (append-nil (with_key key xs n))

-- as loops that count up want it
pub grouped_next : {X : Type 0} (key : X → ℕ) (n : ℕ) (xs : List X) → grouped key (n + 1) xs ≡ grouped key n xs ++ with_key key xs n
grouped_next key n xs = rw add-one (grouped_more key n xs)

pub map_numbers_next : (f : ℕ → ℕ) (n : ℕ) → map f (numbers (n + 1)) ≡ map f (numbers n) ++ f n ∷ []
map_numbers_next f n = rw add-one (map-append f (numbers n) (n ∷ []))

-- the groups of more keys begin with those of fewer
pub get_grouped : {X : Type 0} (key : X → ℕ) (n q : ℕ) (xs : List X) (i : ℕ) (x : X) → q < n → slice_get (with_key key xs q) i ≡ Some x → slice_get (grouped key n xs) (length (grouped key q xs) + i) ≡ Some x
get_grouped key zero q xs i x l e = absurd (omega arith)
get_grouped key (suc n) q xs i x l e = elim (cases_eq q n) [
  | inl same ↦ rw (grouped_more key n xs) (rw same (get_after (grouped key n xs) (with_key key xs n) i ∙ subst (λ m. slice_get (with_key key xs m) i ≡ Some x) same e))
  | inr apart ↦
      let h : slice_get (grouped key n xs) (length (grouped key q xs) + i) ≡ Some x = get_grouped key n q xs i x (omega arith) e in
      rw (grouped_more key n xs) (get_before (grouped key n xs) (with_key key xs n) (length (grouped key q xs) + i) (within (grouped key n xs) (length (grouped key q xs) + i) x h) ∙ h)
]

-- the key of the k-th
pub key_at : {X : Type 0} (key : X → ℕ) (xs : List X) (k : ℕ) (x : X) → slice_get xs k ≡ Some x → slice_index (map key xs) k ≡ key x
key_at key [] k x e = absurd (cc)
key_at key (y ∷ ys) zero x e = ap key (some_is y x e)
key_at key (y ∷ ys) (suc k) x e = key_at key ys k x e

-- the k-th stands at its number
pub get_number : {X : Type 0} (key : X → ℕ) (n : ℕ) (xs : List X) (k : ℕ) (x : X) → slice_get xs k ≡ Some x → key x < n → slice_get (grouped key n xs) (number_of key xs k) ≡ Some x
get_number key n xs k x e l =
    rw (key_at key xs k x e) (get_grouped key n (key x) xs (length (with_key key (take k xs) (key x))) x l (get_filtered (λ y. key y == key x) xs k x e (eq-eqb (key x) (key x) refl)))

-- what stands at a number
pub record Numbered {X : Type 0} (key : X → ℕ) (n : ℕ) (xs : List X) (p : ℕ) : Type 0 where
  pub k : ℕ
  pub x : X
  pub there : slice_get xs k ≡ Some x
  pub key_below : key x < n
  pub number_is : number_of key xs k ≡ p

numbered_at : {X : Type 0} (key : X → ℕ) (n q : ℕ) (xs : List X) (i : ℕ) → q < n → i < length (with_key key xs q) → Numbered key n xs (length (grouped key q xs) + i)
numbered_at key n q xs i l within =
    let found = filtered_from (λ y. key y == q) xs i within in
    let same : key found.x ≡ q = eqb-true (key found.x) q found.passes in
    record { k = found.k; x = found.x; there = found.there; key_below = omega (arith, same, l); number_is = rw (key_at key xs found.k found.x found.there ∙ same) (ap (λ m. length (grouped key q xs) + m) found.ahead) }

-- each number is that of a place
pub numbered : {X : Type 0} (key : X → ℕ) (n : ℕ) (xs : List X) (p : ℕ) → p < length (grouped key n xs) → Numbered key n xs p
numbered key zero xs p l = absurd (omega arith)
numbered {X} key (suc n) xs p l = elim (cases_lt p (length (grouped key n xs))) [
  | inl low ↦ let h = numbered key n xs p low in record { k = h.k; x = h.x; there = h.there; key_below = omega (arith, h.key_below); number_is = h.number_is }
  | inr high ↦
      let i : ℕ = p - length (grouped key n xs) in
      let e : length (grouped key n xs) + i ≡ p = omega arith in
      let within : i < length (with_key key xs n) = omega (arith, ap length (grouped_more key n xs), length-append (grouped key n xs) (with_key key xs n)) in
      subst (Numbered key (suc n) xs) e (numbered_at key (suc n) n xs i (omega arith) within)
]

-- ---- numbers are below their count, and differ

pub number_below : {X : Type 0} (key : X → ℕ) (n : ℕ) (xs : List X) (k : ℕ) (x : X) → slice_get xs k ≡ Some x → key x < n → number_of key xs k < length (grouped key n xs)
number_below key n xs k x e l = within (grouped key n xs) (number_of key xs k) x (get_number key n xs k x e l)

passed_more : {X : Type 0} (test : X → Bool) (xs : List X) (k l : ℕ) (x : X) → slice_get xs k ≡ Some x → test x ≡ true → k < l → length (filter test (take k xs)) < length (filter test (take l xs))
passed_more test [] k l x e t less = absurd (cc)
passed_more test (y ∷ ys) k zero x e t less = absurd (omega arith)
passed_more test (y ∷ ys) zero (suc l) x e t less =
    let same : y ≡ x = some_is y x e in
    rw (cond-true (test y) (y ∷ filter test (take l ys)) (filter test (take l ys)) (ap test same ∙ t)) (omega arith)
passed_more {X} test (y ∷ ys) (suc k) (suc l) x e t less = go (test y) (passed_more test ys k l x e t (omega arith))
  where
    go : (b : Bool) → length (filter test (take k ys)) < length (filter test (take l ys)) → length (cond b (y ∷ filter test (take k ys)) (filter test (take k ys))) < length (cond b (y ∷ filter test (take l ys)) (filter test (take l ys)))
    go true h = omega arith
    go false h = h

-- of two places with one key the earlier has the lower number
pub number_rises : {X : Type 0} (key : X → ℕ) (xs : List X) (k l : ℕ) (x y : X) → slice_get xs k ≡ Some x → slice_get xs l ≡ Some y → key x ≡ key y → k < l → number_of key xs k < number_of key xs l
number_rises key xs k l x y e f same less =
    rw (key_at key xs k x e, key_at key xs l y f, same) (omega (arith, passed_more (λ z. key z == key y) xs k l x e (eq-eqb (key x) (key y) same) less))

-- and of two keys the lower
number_of_lower : {X : Type 0} (key : X → ℕ) (xs : List X) (k l : ℕ) (x y : X) → slice_get xs k ≡ Some x → slice_get xs l ≡ Some y → key x < key y → number_of key xs k < number_of key xs l
number_of_lower key xs k l x y e f less =
    let low : number_of key xs k < length (grouped key (key y) xs) = number_below key (key y) xs k x e less in
    let high : length (grouped key (key y) xs) ≤ number_of key xs l = rw (key_at key xs l y f) (omega arith) in
    omega arith

pub number_once : {X : Type 0} (key : X → ℕ) (xs : List X) (k l : ℕ) (x y : X) → slice_get xs k ≡ Some x → slice_get xs l ≡ Some y → k < l → number_of key xs k ≢ number_of key xs l
number_once key xs k l x y e f less same = elim (cases_eq (key x) (key y)) [
  | inl one ↦ omega (arith, number_rises key xs k l x y e f one less)
  | inr two ↦ elim (cases_lt (key x) (key y)) [
    | inl low ↦ omega (arith, number_of_lower key xs k l x y e f low)
    | inr high ↦ omega (arith, number_of_lower key xs l k y x f e (omega arith))
  ]
]

-- ---- as many are grouped as have a key below n

kept : {X : Type 0} (key : X → ℕ) (q : ℕ) (x : X) (xs : List X) → key x ≡ q → length (with_key key (x ∷ xs) q) ≡ suc (length (with_key key xs q))
kept key q x xs e = ap length (cond-true (key x == q) (x ∷ with_key key xs q) (with_key key xs q) (eq-eqb (key x) q e))

left_out : {X : Type 0} (key : X → ℕ) (q : ℕ) (x : X) (xs : List X) → key x ≢ q → length (with_key key (x ∷ xs) q) ≡ length (with_key key xs q)
left_out key q x xs d = ap length (cond-false (key x == q) (x ∷ with_key key xs q) (with_key key xs q) (ne_eqb (key x) q d))

length_more : {X : Type 0} (key : X → ℕ) (n : ℕ) (xs : List X) → length (grouped key (suc n) xs) ≡ length (grouped key n xs) + length (with_key key xs n)
length_more key n xs = ap length (grouped_more key n xs) ∙ length-append (grouped key n xs) (with_key key xs n)

high_key : {X : Type 0} (key : X → ℕ) (n : ℕ) (x : X) (xs : List X) → n ≤ key x → length (grouped key n (x ∷ xs)) ≡ length (grouped key n xs)
high_key key zero x xs l = refl
high_key key (suc n) x xs l = omega (arith, length_more key n (x ∷ xs), length_more key n xs, high_key key n x xs (omega arith), left_out key n x xs (λ e. omega arith))

low_key : {X : Type 0} (key : X → ℕ) (n : ℕ) (x : X) (xs : List X) → key x < n → length (grouped key n (x ∷ xs)) ≡ suc (length (grouped key n xs))
low_key key zero x xs l = absurd (omega arith)
low_key key (suc n) x xs l = elim (cases_eq (key x) n) [
  | inl e ↦ omega (arith, length_more key n (x ∷ xs), length_more key n xs, high_key key n x xs (omega arith), kept key n x xs e)
  | inr d ↦ omega (arith, length_more key n (x ∷ xs), length_more key n xs, low_key key n x xs (omega arith), left_out key n x xs d)
]

grouped_nil : {X : Type 0} (key : X → ℕ) (n : ℕ) → length (grouped key n []) ≡ 0
grouped_nil key zero = refl
grouped_nil key (suc n) = omega (arith, length_more key n [], grouped_nil key n)

pub grouped_most : {X : Type 0} (key : X → ℕ) (n : ℕ) (xs : List X) → length (grouped key n xs) ≤ length xs
grouped_most key n [] = omega (arith, grouped_nil key n)
grouped_most key n (x ∷ xs) = elim (cases_lt (key x) n) [
  | inl low ↦ omega (arith, low_key key n x xs low, grouped_most key n xs)
  | inr high ↦ omega (arith, high_key key n x xs high, grouped_most key n xs)
]
