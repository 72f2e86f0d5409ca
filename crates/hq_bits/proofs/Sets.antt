-- Rows of bits as sets.
use Rattle.std.proofs.Common.{◌≡◌, ℕ, not, ◌+◌, ◌*◌, ◌/◌, ◌%◌, ◌^◌, ◌-◌, ◌<◌, ◌≤◌, ◌↔◌, ◌⊎◌, IsTrue, inl, inr, Bool, true, false, ◌||◌, ◌==◌, List, length, refl, sym, ◌∙◌, ap, subst, arith, slice_index, slice_set, bit_or, bit_and, max, min, ◌&&◌, w64, take}
use Rattle.std.specs.Int.{bit_at, bit_not}
use Rattle.std.specs.Int.Bits.{bit_xor}
use Rattle.std.proofs.Math.Nat.{mod-eq_of_lt}
use Rattle.std.proofs.Math.Pow.{pow_mono}
use Rattle.std.proofs.lemmas.Bool.{cases_eq, cases_lt, eq-eqb, eqb-true, ne_eqb}
use Rattle.std.proofs.lemmas.List.{get_or-set_other, get_or_past}
use Rattle.std.proofs.lemmas.Grind.{get_or-set_at, common_steps}
use Rattle.std.proofs.lemmas.Nat.Bits.{bit_at_or, bit_at_and, bit_at_set_same, bit_at_set_other, bit_at_clear_same, bit_at_clear_other, bit_at-lt, bit_at-zero, bit_at_xor}
use Rattle.hq_bits.specs.Bits.{has}

-- a number is its word and its bit
apart : (p n : ℕ) → p / 64 ≡ n / 64 → p % 64 ≡ n % 64 → p ≡ n
apart p n e f = omega arith

or_true : (b : Bool) → (b || true) ≡ true
or_true true = refl
or_true false = refl

or_false : (b : Bool) → (b || false) ≡ b
or_false true = refl
or_false false = refl

pub has_insert : (row : List ℕ) (n p : ℕ) → n / 64 < length row → has (slice_set row (n / 64) (bit_or (slice_index row (n / 64)) (1 * 2 ^ (n % 64) % 2 ^ 64))) p ≡ (has row p || p == n)
has_insert row n p l =
    let word : ℕ = slice_index row (n / 64) in
    let new : ℕ = bit_or word (1 * 2 ^ (n % 64) % 2 ^ 64) in
    elim (cases_eq (p / 64) (n / 64)) [
      | inl same ↦
          let here : slice_index (slice_set row (n / 64) new) (p / 64) ≡ new = get_or-set_at row (n / 64) (p / 64) new 0 same l in
          elim (cases_eq (p % 64) (n % 64)) [
            | inl bit ↦
                let one : p ≡ n = apart p n same bit in
                ap (λ w. bit_at w (p % 64) == 1) here ∙ ap (λ k. bit_at new k == 1) bit ∙ eq-eqb (bit_at new (n % 64)) 1 (bit_at_set_same w64 word (n % 64) (omega arith)) ∙ sym (ap (λ b. has row p || b) (eq-eqb p n one) ∙ or_true (has row p))
            | inr other ↦
                ap (λ w. bit_at w (p % 64) == 1) here ∙ ap (λ b. b == 1) (bit_at_set_other w64 word (n % 64) (omega arith) (p % 64) other) ∙ ap (λ w. bit_at w (p % 64) == 1) (ap (slice_index row) (sym same)) ∙ sym (ap (λ b. has row p || b) (ne_eqb p n (λ e. other (ap (λ m. m % 64) e))) ∙ or_false (has row p))
          ]
      | inr other ↦
          ap (λ w. bit_at w (p % 64) == 1) (get_or-set_other row (n / 64) (p / 64) new 0 other) ∙ sym (ap (λ b. has row p || b) (ne_eqb p n (λ e. other (ap (λ m. m / 64) e))) ∙ or_false (has row p))
    ]

and_none : (b : Bool) → (b && false) ≡ false
and_none true = refl
and_none false = refl

and_all : (b : Bool) → (b && true) ≡ b
and_all true = refl
and_all false = refl

pub has_remove : (row : List ℕ) (n p : ℕ) → n / 64 < length row → has (slice_set row (n / 64) (bit_and (slice_index row (n / 64)) (bit_not w64 (1 * 2 ^ (n % 64) % 2 ^ 64)))) p ≡ (has row p && not (p == n))
has_remove row n p l =
    let word : ℕ = slice_index row (n / 64) in
    let new : ℕ = bit_and word (bit_not w64 (1 * 2 ^ (n % 64) % 2 ^ 64)) in
    elim (cases_eq (p / 64) (n / 64)) [
      | inl same ↦
          let here : slice_index (slice_set row (n / 64) new) (p / 64) ≡ new = get_or-set_at row (n / 64) (p / 64) new 0 same l in
          elim (cases_eq (p % 64) (n % 64)) [
            | inl bit ↦
                let one : p ≡ n = apart p n same bit in
                ap (λ w. bit_at w (p % 64) == 1) here ∙ ap (λ k. bit_at new k == 1) bit ∙ ap (λ b. b == 1) (bit_at_clear_same w64 word (n % 64) (omega arith)) ∙ sym (ap (λ b. has row p && not b) (eq-eqb p n one) ∙ and_none (has row p))
            | inr other ↦
                ap (λ w. bit_at w (p % 64) == 1) here ∙ ap (λ b. b == 1) (bit_at_clear_other w64 word (n % 64) (omega arith) (p % 64) (omega arith) other) ∙ ap (λ w. bit_at w (p % 64) == 1) (ap (slice_index row) (sym same)) ∙ sym (ap (λ b. has row p && not b) (ne_eqb p n (λ e. other (ap (λ m. m % 64) e))) ∙ and_all (has row p))
          ]
      | inr other ↦
          ap (λ w. bit_at w (p % 64) == 1) (get_or-set_other row (n / 64) (p / 64) new 0 other) ∙ sym (ap (λ b. has row p && not b) (ne_eqb p n (λ e. other (ap (λ m. m / 64) e))) ∙ and_all (has row p))
    ]

bit_or_bool : (a b : ℕ) → a < 2 → b < 2 → (max a b == 1) ≡ ((a == 1) || (b == 1))
bit_or_bool a b l m = elim (cases_eq a 1) [
  | inl e ↦ rw e (elim (cases_eq b 1) [ inl f ↦ rw f refl | inr g ↦ let z : b ≡ 0 = omega arith in rw z refl ])
  | inr d ↦ let z : a ≡ 0 = omega arith in rw z (elim (cases_eq b 1) [ inl f ↦ rw f refl | inr g ↦ let y : b ≡ 0 = omega arith in rw y refl ])
]

-- rows joined word by word
pub record Joined (f : ℕ → ℕ → ℕ) (old other new : List ℕ) : Type 0 where
  pub len : length new ≡ length old
  pub same_len : length old ≡ length other
  pub words : (i : ℕ) → i < length old → slice_index new i ≡ f (slice_index old i) (slice_index other i)

beyond : (row : List ℕ) (i : ℕ) → length row ≤ i → slice_index row i ≡ 0
beyond row i l = get_or_past row i 0 l

pub has_united : (old other new : List ℕ) (p : ℕ) → Joined bit_or old other new → has new p ≡ (has old p || has other p)
has_united old other new p u = elim (cases_lt (p / 64) (length old)) [
  | inl low ↦
      let a : ℕ = bit_at (slice_index old (p / 64)) (p % 64) in
      let b : ℕ = bit_at (slice_index other (p / 64)) (p % 64) in
      ap (λ w. bit_at w (p % 64) == 1) (u.words (p / 64) low)
      ∙ ap (λ m. m == 1) (bit_at_or (slice_index old (p / 64)) (slice_index other (p / 64)) (p % 64))
      ∙ bit_or_bool a b (bit_at-lt (slice_index old (p / 64)) (p % 64)) (bit_at-lt (slice_index other (p / 64)) (p % 64))
  | inr high ↦
      let x : slice_index new (p / 64) ≡ 0 = beyond new (p / 64) (omega (arith, u.len)) in
      let y : slice_index old (p / 64) ≡ 0 = beyond old (p / 64) high in
      let z : slice_index other (p / 64) ≡ 0 = beyond other (p / 64) (omega (arith, u.same_len)) in
      let none : (bit_at 0 (p % 64) == 1) ≡ false = ap (λ m. m == 1) (bit_at-zero (p % 64)) in
      ap (λ w. bit_at w (p % 64) == 1) x ∙ none ∙ sym (ap (λ w. (bit_at w (p % 64) == 1) || has other p) y ∙ ap (λ c. c || has other p) none ∙ ap (λ w. bit_at w (p % 64) == 1) z ∙ none)
]

-- so far as the first i words
pub record JoinedUpto (f : ℕ → ℕ → ℕ) (old other : List ℕ) (i : ℕ) (new : List ℕ) : Type 0 where
  pub len : length new ≡ length old
  pub words : (k : ℕ) → k < i → slice_index new k ≡ f (slice_index old k) (slice_index other k)
  pub rest : (k : ℕ) → i ≤ k → slice_index new k ≡ slice_index old k

pub joined_all : (f : ℕ → ℕ → ℕ) (old other new : List ℕ) (i : ℕ) → length old ≡ length other → length old ≤ i → JoinedUpto f old other i new → Joined f old other new
joined_all f old other new i e l u = record { len = u.len; same_len = e; words = λ k low. u.words k (omega arith) }

bit_and_bool : (a b : ℕ) → a < 2 → b < 2 → (min a b == 1) ≡ ((a == 1) && (b == 1))
bit_and_bool a b l m = elim (cases_eq a 1) [
  | inl e ↦ rw e (elim (cases_eq b 1) [ inl f ↦ rw f refl | inr g ↦ let z : b ≡ 0 = omega arith in rw z refl ])
  | inr d ↦ let z : a ≡ 0 = omega arith in rw z (elim (cases_eq b 1) [ inl f ↦ rw f refl | inr g ↦ let y : b ≡ 0 = omega arith in rw y refl ])
]

pub has_met : (old other new : List ℕ) (p : ℕ) → Joined bit_and old other new → has new p ≡ (has old p && has other p)
has_met old other new p u = elim (cases_lt (p / 64) (length old)) [
  | inl low ↦
      let a : ℕ = bit_at (slice_index old (p / 64)) (p % 64) in
      let b : ℕ = bit_at (slice_index other (p / 64)) (p % 64) in
      ap (λ w. bit_at w (p % 64) == 1) (u.words (p / 64) low)
      ∙ ap (λ m. m == 1) (bit_at_and (slice_index old (p / 64)) (slice_index other (p / 64)) (p % 64))
      ∙ bit_and_bool a b (bit_at-lt (slice_index old (p / 64)) (p % 64)) (bit_at-lt (slice_index other (p / 64)) (p % 64))
  | inr high ↦
      let x : slice_index new (p / 64) ≡ 0 = beyond new (p / 64) (omega (arith, u.len)) in
      let z : slice_index other (p / 64) ≡ 0 = beyond other (p / 64) (omega (arith, u.same_len)) in
      let none : (bit_at 0 (p % 64) == 1) ≡ false = ap (λ m. m == 1) (bit_at-zero (p % 64)) in
      ap (λ w. bit_at w (p % 64) == 1) x ∙ none ∙ sym (ap (λ w. has old p && (bit_at w (p % 64) == 1)) z ∙ ap (λ c. has old p && c) none ∙ and_none (has old p))
]

whole : (row other : List ℕ) → length row ≡ length other → take (length row) other ≡ other
whole row other e = grind (arith, common_steps)

-- the same, where the other is cut to the length that it has
pub joined_cut : (f : ℕ → ℕ → ℕ) (old other new : List ℕ) (i : ℕ) → length old ≡ length other → length old ≤ i → JoinedUpto f old (take (length old) other) i new → Joined f old other new
joined_cut f old other new i e l u = joined_all f old other new i e l (subst (λ xs. JoinedUpto f old xs i new) (whole old other e) u)

-- ---- a set less another

less_bool : (a b : ℕ) → a < 2 → b < 2 → (min a ((a + b) % 2) == 1) ≡ ((a == 1) && not (b == 1))
less_bool a b l m = elim (cases_eq a 1) [
  | inl e ↦ rw e (elim (cases_eq b 1) [ inl f ↦ rw f refl | inr g ↦ let z : b ≡ 0 = omega arith in rw z refl ])
  | inr d ↦ let z : a ≡ 0 = omega arith in rw z (elim (cases_eq b 1) [ inl f ↦ rw f refl | inr g ↦ let y : b ≡ 0 = omega arith in rw y refl ])
]

-- the bits of the first that the second hasn't
abbrev pub less_word : ℕ → ℕ → ℕ
less_word a b = bit_and a (bit_xor a b)

pub less_at : (a b i : ℕ) → (bit_at (less_word a b) i == 1) ≡ ((bit_at a i == 1) && not (bit_at b i == 1))
less_at a b i = ap (λ m. m == 1) (bit_at_and a (bit_xor a b) i ∙ ap (min (bit_at a i)) (bit_at_xor a b i)) ∙ less_bool (bit_at a i) (bit_at b i) (bit_at-lt a i) (bit_at-lt b i)

not_or_false : (b c : Bool) → b ≡ false → (b && not c) ≡ false
not_or_false true c e = absurd cc
not_or_false false c e = refl

pub has_less : (old other new : List ℕ) (p : ℕ) → Joined less_word old other new → has new p ≡ (has old p && not (has other p))
has_less old other new p u = elim (cases_lt (p / 64) (length old)) [
  | inl low ↦ ap (λ w. bit_at w (p % 64) == 1) (u.words (p / 64) low) ∙ less_at (slice_index old (p / 64)) (slice_index other (p / 64)) (p % 64)
  | inr high ↦
      let none : (bit_at 0 (p % 64) == 1) ≡ false = ap (λ m. m == 1) (bit_at-zero (p % 64)) in
      let x : has new p ≡ false = ap (λ w. bit_at w (p % 64) == 1) (beyond new (p / 64) (omega (arith, u.len))) ∙ none in
      let y : has old p ≡ false = ap (λ w. bit_at w (p % 64) == 1) (beyond old (p / 64) high) ∙ none in
      x ∙ sym (not_or_false (has old p) (has other p) y)
]

-- ---- the bits of a word between two

-- a power of 2 as code has it, in words of 128 bits
pub power_is : (k : ℕ) → k ≤ 64 → 1 * 2 ^ k % 340282366920938463463374607431768211456 ≡ 2 ^ k
power_is k few =
    let low : 2 ^ k ≤ 2 ^ 64 = pow_mono few in
    let one : 1 * 2 ^ k ≡ 2 ^ k = omega arith in
    ap (λ n. n % 340282366920938463463374607431768211456) one ∙ mod-eq_of_lt (omega (arith, low))

pub powers_in_order : (from to : ℕ) → from ≤ to → to ≤ 64 → 1 * 2 ^ from % 340282366920938463463374607431768211456 ≤ 1 * 2 ^ to % 340282366920938463463374607431768211456
powers_in_order from to order few = omega (arith, power_is from (omega arith), power_is to few, pow_mono order)

pub mask_is : (from to : ℕ) → from ≤ to → to ≤ 64 → 1 * 2 ^ to % 340282366920938463463374607431768211456 - 1 * 2 ^ from % 340282366920938463463374607431768211456 ≡ 2 ^ to - 2 ^ from
mask_is from to order few = ap (λ n. n - 1 * 2 ^ from % 340282366920938463463374607431768211456) (power_is to few) ∙ ap (λ n. 2 ^ to - n) (power_is from (omega arith))

-- a bit of a word that is put over another
pub has_word : (row : List ℕ) (k w p : ℕ) → k < length row → has (slice_set row k (bit_or (slice_index row k) w)) p ≡ (has row p || ((p / 64 == k) && (bit_at w (p % 64) == 1)))
has_word row k w p low = elim (cases_eq (p / 64) k) [
  | inl same ↦
      let old : ℕ = slice_index row k in
      let here : slice_index (slice_set row k (bit_or old w)) (p / 64) ≡ bit_or old w = get_or-set_at row k (p / 64) (bit_or old w) 0 same low in
      ap (λ x. bit_at x (p % 64) == 1) here ∙ ap (λ m. m == 1) (bit_at_or old w (p % 64)) ∙ bit_or_bool (bit_at old (p % 64)) (bit_at w (p % 64)) (bit_at-lt old (p % 64)) (bit_at-lt w (p % 64))
      ∙ ap (λ x. (bit_at x (p % 64) == 1) || (bit_at w (p % 64) == 1)) (ap (slice_index row) (sym same)) ∙ sym (ap (λ b. has row p || (b && (bit_at w (p % 64) == 1))) (eq-eqb (p / 64) k same))
  | inr other ↦
      ap (λ x. bit_at x (p % 64) == 1) (get_or-set_other row k (p / 64) (bit_or (slice_index row k) w) 0 other) ∙ sym (ap (λ b. has row p || (b && (bit_at w (p % 64) == 1))) (ne_eqb (p / 64) k other) ∙ or_false (has row p))
]

or_cases : (a b : Bool) → IsTrue (a || b) ↔ (IsTrue a ⊎ IsTrue b)
or_cases true b = ((λ t. inl refl), (λ t. refl))
or_cases false b = ((λ t. inr t), (λ t. elim t [ inl f ↦ absurd (cc (f)) | inr h ↦ h ]))

and_cases : (a b : Bool) → IsTrue (a && b) ↔ (IsTrue a × IsTrue b)
and_cases true b = ((λ t. (refl, t)), (λ t. t.1))
and_cases false b = ((λ t. absurd (cc (t))), (λ t. absurd (cc (t.0))))

-- a word more of the numbers from one on up to another
module _ (old row : List ℕ) (place w start end from to : ℕ) (low : place < length row) (lie : start ≤ end) (reach : place ≤ end / 64) (from_is : from ≡ min (start - place * 64) to) (to_is : to ≡ min (end - place * 64) 64)
    (inside : (i : ℕ) → from ≤ i → i < to → bit_at w i ≡ 1) (outside : (i : ℕ) → (i < from) ⊎ (to ≤ i) → bit_at w i ≡ 0)
    (h : (p : ℕ) → IsTrue (has row p) ↔ (IsTrue (has old p) ⊎ ((p / 64 < place) × ((p < end) × (start ≤ p))))) where
  here : (p : ℕ) → p / 64 ≡ place → bit_at w (p % 64) ≡ 1 → (p < end) × (start ≤ p)
  here p same bit = elim (cases_lt (p % 64) from) [
    | inl below ↦ absurd (let z = outside (p % 64) (inl below) in omega (arith, z, bit))
    | inr above ↦ elim (cases_lt (p % 64) to) [
      | inl under ↦ (omega (arith, same, under, to_is), omega (arith, same, above, from_is, under))
      | inr over ↦ absurd (let z = outside (p % 64) (inr (omega (arith, over))) in omega (arith, z, bit))
    ]
  ]

  there : (p : ℕ) → p / 64 ≡ place → p < end → start ≤ p → bit_at w (p % 64) ≡ 1
  there p same below above = inside (p % 64) (omega (arith, same, below, above, from_is, to_is)) (omega (arith, same, below, to_is))

  pub word_more : (p : ℕ) → IsTrue (has (slice_set row place (bit_or (slice_index row place) w)) p) ↔ (IsTrue (has old p) ⊎ ((p / 64 < place + 1) × ((p < end) × (start ≤ p))))
  word_more p =
      let is = has_word row place w p low in (
        λ t. elim ((or_cases (has row p) ((p / 64 == place) && (bit_at w (p % 64) == 1))).0 (subst IsTrue is t)) [
          | inl r ↦ elim ((h p).0 r) [ inl o ↦ inl o | inr x ↦ inr (omega (arith, x.0), x.1) ]
          | inr b ↦
              let both = (and_cases (p / 64 == place) (bit_at w (p % 64) == 1)).0 b in
              let same : p / 64 ≡ place = eqb-true (p / 64) place both.0 in
              inr (omega (arith, same), here p same (eqb-true (bit_at w (p % 64)) 1 both.1))
        ],
        λ t. subst IsTrue (sym is) ((or_cases (has row p) ((p / 64 == place) && (bit_at w (p % 64) == 1))).1 (elim t [
          | inl o ↦ inl ((h p).1 (inl o))
          | inr x ↦ elim (cases_lt (p / 64) place) [
            | inl less ↦ inl ((h p).1 (inr (less, x.1)))
            | inr more ↦
                let same : p / 64 ≡ place = omega (arith, x.0, more) in
                inr ((and_cases (p / 64 == place) (bit_at w (p % 64) == 1)).1 (eq-eqb (p / 64) place same, eq-eqb (bit_at w (p % 64)) 1 (there p same x.1.0 x.1.1)))
          ]
        ])),
      )
