-- Words and blocks that exchange a binary digit of their numbers.
use Rattle.std.proofs.Common.{◌≡◌, ℕ, zero, suc, ◌+◌, ◌-◌, ◌*◌, ◌/◌, ◌%◌, ◌^◌, ◌<◌, ◌≤◌, ◌⊎◌, inl, inr, refl, List, sym, ◌∙◌, ap, arith, bit_and, bit_or, w64, Bool, true, false, ◌&&◌, ◌==◌, subst, slice_set, slice_index, length}
use Rattle.std.specs.Int.{bit_at, bit_not}
use Rattle.std.proofs.lemmas.Bool.{cases_eq, cases_lt, eqb-true}
use Rattle.std.proofs.lemmas.Nat.Bits.{bit_at_and, bit_at_not, bit_at_or, bit_at-lt, bit_at-zero, bit_at_cat_low, bit_at_cat_high}
use Rattle.std.proofs.lemmas.Grind.{get_or-set_at}
use Rattle.std.proofs.lemmas.List.{get_or-set_other, length-set}
use Rattle.std.proofs.lemmas.Nat.{pow_pos}
use Rattle.hq_bits.proofs.First.{shifted}
use Rattle.std.specs.Global.{Vec}
use Rattle.hq_bits.specs.Bits.{has}
use Rattle.hq_rows.specs.Matrix.{row, Turned}
use Rattle.hq_rows.specs.Turning.{bit, digit, with_digit, Exchanged, ExchangedAt, IsHalf, IsTurned, IsPartTurned}

-- ---- words

-- the low bits of a number are those of what is left of it in a word
kept_low : (n j : ℕ) → j < 64 → bit_at (n % 2 ^ 64) j ≡ bit_at n j
kept_low n j l =
    let whole : n / 2 ^ 64 * 2 ^ 64 + n % 2 ^ 64 ≡ n = omega arith in
    sym (bit_at_cat_low (n / 2 ^ 64) 64 (n % 2 ^ 64) j l) ∙ ap (λ m. bit_at m j) whole

pub raised_high : (n s j : ℕ) → j < 64 → s ≤ j → bit_at (n * 2 ^ s % 2 ^ 64) j ≡ bit_at n (j - s)
raised_high n s j l high = kept_low (n * 2 ^ s) j l ∙ ap (λ m. bit_at m j) (omega arith) ∙ bit_at_cat_high n s 0 j (pow_pos s) high

pub raised_low : (n s j : ℕ) → j < 64 → j < s → bit_at (n * 2 ^ s % 2 ^ 64) j ≡ 0
raised_low n s j l low = kept_low (n * 2 ^ s) j l ∙ ap (λ m. bit_at m j) (omega arith) ∙ bit_at_cat_low n s 0 j low ∙ bit_at-zero j

pub digit_most : (step i : ℕ) → digit step i < 2
digit_most step i = omega arith

digit_cases : (step i : ℕ) → (digit step i ≡ 0) ⊎ (digit step i ≡ 1)
digit_cases step i = let m = digit_most step i in elim (cases_lt (digit step i) 1) [ inl l ↦ inl (omega arith) | inr r ↦ inr (omega arith) ]

-- the mask's bits
module _ (step mask : ℕ) (h : IsHalf step mask) where
  mask_has : (j : ℕ) → j < 64 → digit step j ≡ 0 → bit_at mask j ≡ 1
  mask_has j l e = omega (arith, h.bits j l, e)

  mask_lacks : (j : ℕ) → j < 64 → digit step j ≡ 1 → bit_at mask j ≡ 0
  mask_lacks j l e = omega (arith, h.bits j l, e)

  -- one step below a number of digit 0 stands one of digit 1
  below_lower : (j : ℕ) → j < 64 → step ≤ j → digit step j ≡ 0 → digit step (j - step) ≡ 1
  below_lower j l high e =
      let back : j - step + step ≡ j = omega arith in
      let least : digit step (j - step) < 2 = digit_most step (j - step) in
      elim (cases_lt (digit step (j - step)) 1) [
        | inl unset ↦
            let up = h.up (j - step) (omega arith) (omega arith) in
            let one : digit step j ≡ 1 = ap (digit step) (sym back) ∙ up.1 in
            absurd (omega (arith, one, e))
        | inr some ↦ omega arith
      ]

  pub lower_own : (a b j : ℕ) → j < 64 → digit step j ≡ 0 → bit_at (bit_or (bit_and a mask) (bit_and b mask * 2 ^ step % 2 ^ 64)) j ≡ bit_at a j
  lower_own a b j l e =
      let m = mask_has j l e in
      let none : bit_at (bit_and b mask * 2 ^ step % 2 ^ 64) j ≡ 0 = elim (cases_lt j step) [
        | inl low ↦ raised_low (bit_and b mask) step j l low
        | inr high ↦
            let raised : bit_at (bit_and b mask * 2 ^ step % 2 ^ 64) j ≡ bit_at (bit_and b mask) (j - step) = raised_high (bit_and b mask) step j l high in
            let lacks : bit_at mask (j - step) ≡ 0 = mask_lacks (j - step) (omega arith) (below_lower j l high e) in
            omega (arith, raised, bit_at_and b mask (j - step), lacks)
      ] in
      omega (arith, bit_at_or (bit_and a mask) (bit_and b mask * 2 ^ step % 2 ^ 64) j, bit_at_and a mask j, m, none, bit_at-lt a j)

  pub lower_other : (a b j : ℕ) → j < 64 → digit step j ≡ 1 → bit_at (bit_or (bit_and a mask) (bit_and b mask * 2 ^ step % 2 ^ 64)) j ≡ bit_at b (j - step)
  lower_other a b j l e =
      let m = mask_lacks j l e in
      let down = h.down j l e in
      let raised : bit_at (bit_and b mask * 2 ^ step % 2 ^ 64) j ≡ bit_at (bit_and b mask) (j - step) = raised_high (bit_and b mask) step j l down.0 in
      let there : bit_at mask (j - step) ≡ 1 = mask_has (j - step) (omega arith) down.1 in
      omega (arith, bit_at_or (bit_and a mask) (bit_and b mask * 2 ^ step % 2 ^ 64) j, bit_at_and a mask j, m, raised, bit_at_and b mask (j - step), there, bit_at-lt b (j - step))

  pub upper_own : (a b j : ℕ) → mask < 2 ^ 64 → j < 64 → digit step j ≡ 1 → bit_at (bit_or (bit_and (a / 2 ^ step) mask) (bit_and b (bit_not w64 mask))) j ≡ bit_at b j
  upper_own a b j fits l e =
      let m = mask_lacks j l e in
      omega (arith, bit_at_or (bit_and (a / 2 ^ step) mask) (bit_and b (bit_not w64 mask)) j, bit_at_and (a / 2 ^ step) mask j, m, bit_at_and b (bit_not w64 mask) j, bit_at_not w64 mask j fits l, bit_at-lt b j)

  pub upper_other : (a b j : ℕ) → mask < 2 ^ 64 → j < 64 → digit step j ≡ 0 → bit_at (bit_or (bit_and (a / 2 ^ step) mask) (bit_and b (bit_not w64 mask))) j ≡ bit_at a (j + step)
  upper_other a b j fits l e =
      let m = mask_has j l e in
      let at : bit_at (a / 2 ^ step) j ≡ bit_at a (j + step) = shifted a step j ∙ ap (bit_at a) (omega arith) in
      omega (arith, bit_at_or (bit_and (a / 2 ^ step) mask) (bit_and b (bit_not w64 mask)) j, bit_at_and (a / 2 ^ step) mask j, m, at, bit_at_and b (bit_not w64 mask) j, bit_at_not w64 mask j fits l, bit_at-lt a (j + step))

-- ---- blocks

with_none : (s i j : ℕ) → digit s i ≡ 0 → digit s j ≡ 0 → with_digit s i j ≡ i
with_none s i j e f = rw (e, f) (omega arith)

with_more : (s i j : ℕ) → digit s i ≡ 0 → digit s j ≡ 1 → with_digit s i j ≡ i + s
with_more s i j e f = rw (e, f) (omega arith)

with_less : (s i j : ℕ) → digit s i ≡ 1 → digit s j ≡ 0 → with_digit s i j ≡ i - s
with_less s i j e f = rw (e, f) (omega arith)

with_both : (s i j : ℕ) → digit s i ≡ 1 → digit s j ≡ 1 → with_digit s i j ≡ i
with_both s i j e f = rw (e, f) (omega arith)

-- the lower of two numbers that differ in this digit alone
abbrev pub lower_of : ℕ → ℕ → ℕ
lower_of s i = i - digit s i * s

-- words below this one have exchanged with theirs, and the others stand as they did
pub record ExchangedUpto (step k : ℕ) (old new : List ℕ) : Type 0 where
  pub done : (i j : ℕ) → i < 64 → j < 64 → lower_of step i < k → bit new i j ≡ bit old (with_digit step i j) (with_digit step j i)
  pub left : (i : ℕ) → i < 64 → k ≤ lower_of step i → slice_index new i ≡ slice_index old i

-- of two words that have exchanged, the lower first
pub exchanged_words : (s k : ℕ) (old : List ℕ) (l u : ℕ) → 0 < s → length old ≡ 64 → k + s < 64 → digit s k ≡ 0 → digit s (k + s) ≡ 1
    → ((j : ℕ) → j < 64 → digit s j ≡ 0 → bit_at l j ≡ bit old k j) → ((j : ℕ) → j < 64 → digit s j ≡ 1 → bit_at l j ≡ bit old (k + s) (j - s))
    → ((j : ℕ) → j < 64 → digit s j ≡ 1 → bit_at u j ≡ bit old (k + s) j) → ((j : ℕ) → j < 64 → digit s j ≡ 0 → bit_at u j ≡ bit old k (j + s))
    → ExchangedAt s k old (slice_set (slice_set old k l) (k + s) u)
exchanged_words s k old l u some len inside low high l_own l_other u_own u_other = record {
  lower = λ j m.
      let word : slice_index new k ≡ l = get_or-set_other (slice_set old k l) (k + s) k u 0 (λ e. omega (arith, e)) ∙ get_or-set_at old k k l 0 refl (omega (arith, len)) in
      let at : bit new k j ≡ bit_at l j = ap (λ w. bit_at w j) word in
      elim (digit_cases s j) [
        | inl unset ↦ at ∙ l_own j m unset ∙ both (with_none s k j low unset) (with_none s j k unset low)
        | inr set ↦ at ∙ l_other j m set ∙ both (with_more s k j low set) (with_less s j k set low)
      ];
  upper = λ j m.
      let word : slice_index new (k + s) ≡ u = get_or-set_at (slice_set old k l) (k + s) (k + s) u 0 refl (omega (arith, length-set old k l, len)) in
      let at : bit new (k + s) j ≡ bit_at u j = ap (λ w. bit_at w j) word in
      elim (digit_cases s j) [
        | inl unset ↦ at ∙ u_other j m unset ∙ both (with_less s (k + s) j high unset ∙ omega arith) (with_more s j (k + s) unset high)
        | inr set ↦ at ∙ u_own j m set ∙ both (with_both s (k + s) j high set) (with_both s j (k + s) set high)
      ];
  others = λ i a b. get_or-set_other (slice_set old k l) (k + s) i u 0 b ∙ get_or-set_other old k i l 0 a;
}
  where
    new : List ℕ
    new = slice_set (slice_set old k l) (k + s) u

    both : {i j m n : ℕ} → i ≡ m → j ≡ n → bit old m n ≡ bit old i j
    both {i} {j} {m} {n} e f = sym (ap (λ x. bit old x j) e ∙ ap (λ y. bit old m y) f)

-- one word further, with which another has exchanged
module _ (s mask k : ℕ) (old mid new : List ℕ) (h : IsHalf s mask) (low : k < 64) (is : digit s k ≡ 0) (u : ExchangedUpto s k old mid) (e : ExchangedAt s k mid new) where
  inside : k + s < 64
  inside = (h.up k low is).0

  high : digit s (k + s) ≡ 1
  high = (h.up k low is).1

  lower_is : (i : ℕ) → digit s i ≡ 0 → lower_of s i ≡ i
  lower_is i unset = rw unset (omega arith)

  lower_less : (i : ℕ) → digit s i ≡ 1 → lower_of s i ≡ i - s
  lower_less i one = rw one (omega arith)

  of_pair : (i : ℕ) → (i ≡ k) ⊎ (i ≡ k + s) → lower_of s i ≡ k
  of_pair i (inl a) = ap (lower_of s) a ∙ lower_is k is
  of_pair i (inr b) = ap (lower_of s) b ∙ lower_less (k + s) high ∙ omega arith

  kept : (i : ℕ) → (lower_of s i ≡ k → ⊥) → slice_index new i ≡ slice_index mid i
  kept i apart = e.others i (λ a. apart (of_pair i (inl a))) (λ b. apart (of_pair i (inr b)))

  as_it_was : (i j : ℕ) → (i ≡ k) ⊎ (i ≡ k + s) → bit mid i j ≡ bit old i j
  as_it_was i j which = ap (λ w. bit_at w j) (u.left i (below i which) (omega (arith, of_pair i which)))
    where
      below : (i : ℕ) → (i ≡ k) ⊎ (i ≡ k + s) → i < 64
      below i (inl a) = omega (arith, a, low)
      below i (inr b) = omega (arith, b, inside)

  from_lower : (j : ℕ) → (with_digit s k j ≡ k) ⊎ (with_digit s k j ≡ k + s)
  from_lower j = elim (digit_cases s j) [ inl unset ↦ inl (with_none s k j is unset) | inr set ↦ inr (with_more s k j is set) ]

  from_upper : (j : ℕ) → (with_digit s (k + s) j ≡ k) ⊎ (with_digit s (k + s) j ≡ k + s)
  from_upper j = elim (digit_cases s j) [ inl unset ↦ inl (with_less s (k + s) j high unset ∙ omega arith) | inr set ↦ inr (with_both s (k + s) j high set) ]

  exchanged_here : (i j : ℕ) → i < 64 → j < 64 → lower_of s i ≡ k → bit new i j ≡ bit old (with_digit s i j) (with_digit s j i)
  exchanged_here i j l m here = elim (digit_cases s i) [
    | inl unset ↦
        let same : i ≡ k = sym (lower_is i unset) ∙ here in
        subst (λ x. bit new x j ≡ bit old (with_digit s x j) (with_digit s j x)) (sym same) (e.lower j m ∙ as_it_was (with_digit s k j) (with_digit s j k) (from_lower j))
    | inr set ↦
        let down = h.down i l set in
        let same : i ≡ k + s = omega (arith, lower_less i set, here, down.0) in
        subst (λ x. bit new x j ≡ bit old (with_digit s x j) (with_digit s j x)) (sym same) (e.upper j m ∙ as_it_was (with_digit s (k + s) j) (with_digit s j (k + s)) (from_upper j))
  ]

  pub exchanged_more : ExchangedUpto s (k + 1) old new
  exchanged_more = record {
    done = λ i j l m below. elim (cases_lt (lower_of s i) k) [
      | inl before ↦ ap (λ w. bit_at w j) (kept i (λ same. omega (arith, same, before))) ∙ u.done i j l m before
      | inr from ↦ exchanged_here i j l m (omega arith)
    ];
    left = λ i l above. kept i (λ same. omega (arith, same, above)) ∙ u.left i l (omega arith);
  }

-- of a number of digit 1 the other has exchanged with it already
pub exchanged_still : (s mask k : ℕ) (old new : List ℕ) → IsHalf s mask → digit s k ≡ 1 → ExchangedUpto s k old new → ExchangedUpto s (k + 1) old new
exchanged_still s mask k old new h one u = record {
  done = λ i j l m below. elim (cases_lt (lower_of s i) k) [
    | inl before ↦ u.done i j l m before
    | inr from ↦
        let here : lower_of s i ≡ k = omega arith in
        let lowest : digit s (lower_of s i) ≡ 0 = elim (digit_cases s i) [
          | inl unset ↦ ap (digit s) (rw unset (omega arith)) ∙ unset
          | inr d ↦ ap (digit s) (rw d (omega arith)) ∙ (h.down i l d).1
        ] in
        absurd (omega (arith, ap (digit s) here, lowest, one))
  ];
  left = λ i l above. u.left i l (omega arith);
}

-- so it is for all numbers of digit 1 that follow each other
pub exchanged_beyond : (s mask k n : ℕ) (old new : List ℕ) → IsHalf s mask → ((i : ℕ) → i < n → digit s (k + i) ≡ 1) → ExchangedUpto s k old new → ExchangedUpto s (k + n) old new
exchanged_beyond s mask k zero old new h ones u = subst (λ m. ExchangedUpto s m old new) (omega arith) u
exchanged_beyond s mask k (suc n) old new h ones u =
    let next : k + n + 1 ≡ k + suc n = omega arith in
    subst (λ m. ExchangedUpto s m old new) next (exchanged_still s mask (k + n) old new h (ones n (omega arith)) (exchanged_beyond s mask k n old new h (λ i l. ones i (omega arith)) u))

pub next_group : (group s : ℕ) → group * 2 * s + s + s ≡ (group + 1) * 2 * s
next_group group s = omega arith

-- ---- digit after digit

-- from the digit worth a step up, words and bits have exchanged all digits of their numbers
abbrev pub TurnedDownTo : ℕ → List ℕ → List ℕ → Type 0
TurnedDownTo step old new = (i j : ℕ) → i < 64 → j < 64 → bit new i j ≡ bit old (j / step * step + i % step) (i / step * step + j % step)

-- the number that has these digits of the first and the others of the second, if one more digit is exchanged
record Turns (step above : ℕ) : Type 0 where
  inside : (i j : ℕ) → i < 64 → j < 64 → with_digit step i j < 64
  turned : (i j : ℕ) → i < 64 → j < 64 → with_digit step j i / above * above + with_digit step i j % above ≡ j / step * step + i % step

next_digit : (step above : ℕ) (old mid new : List ℕ) → Turns step above → TurnedDownTo above old mid → Exchanged step mid new → TurnedDownTo step old new
next_digit step above old mid new t h e = λ i j l m.
    e i j l m ∙ h (with_digit step i j) (with_digit step j i) (t.inside i j l m) (t.inside j i m l)
    ∙ ap (λ x. bit old x (with_digit step i j / above * above + with_digit step j i % above)) (t.turned i j l m)
    ∙ ap (bit old (j / step * step + i % step)) (t.turned j i m l)

-- a test of each number below another
abbrev each_below : ℕ → (ℕ → Bool) → Bool
each_below zero test = true
each_below (suc n) test = test n && each_below n test

below_passes : (n : ℕ) (test : ℕ → Bool) → each_below n test ≡ true → (k : ℕ) → k < n → test k ≡ true
below_passes zero test e k l = absurd (omega arith)
below_passes (suc n) test e k l = elim (cases_eq k n) [
  | inl is ↦ ap test is ∙ (both_true (test n) (each_below n test) e).0
  | inr apart ↦ below_passes n test (both_true (test n) (each_below n test) e).1 k (omega arith)
]
  where
    both_true : (a b : Bool) → (a && b) ≡ true → (a ≡ true) × (b ≡ true)
    both_true true b e = (refl, e)
    both_true false b e = absurd (cc)

-- the bits of a mask, looked at one by one
has_lower : (step mask : ℕ) → each_below 64 (λ j. bit_at mask j == 1 - digit step j) ≡ true → (j : ℕ) → j < 64 → bit_at mask j ≡ 1 - digit step j
has_lower step mask e j l = eqb-true (bit_at mask j) (1 - digit step j) (below_passes 64 (λ j. bit_at mask j == 1 - digit step j) e j l)

pub half_32 : IsHalf 32 4294967295
half_32 = record { some = omega arith; few = omega arith; bits = has_lower 32 4294967295 refl; up = λ j l e. (omega (arith, l, e), omega (arith, l, e)); down = λ j l e. (omega (arith, l, e), omega (arith, l, e)); low = λ g i l m. (omega (arith, l, m), omega (arith, l, m)); high = λ g i l m. omega (arith, l, m); all = omega arith }

turns_32 : Turns 32 64
turns_32 = record { inside = λ i j l m. omega (arith, l, m); turned = λ i j l m. omega (arith, l, m) }

pub half_16 : IsHalf 16 281470681808895
half_16 = record { some = omega arith; few = omega arith; bits = has_lower 16 281470681808895 refl; up = λ j l e. (omega (arith, l, e), omega (arith, l, e)); down = λ j l e. (omega (arith, l, e), omega (arith, l, e)); low = λ g i l m. (omega (arith, l, m), omega (arith, l, m)); high = λ g i l m. omega (arith, l, m); all = omega arith }

turns_16 : Turns 16 32
turns_16 = record { inside = λ i j l m. omega (arith, l, m); turned = λ i j l m. omega (arith, l, m) }

pub half_8 : IsHalf 8 71777214294589695
half_8 = record { some = omega arith; few = omega arith; bits = has_lower 8 71777214294589695 refl; up = λ j l e. (omega (arith, l, e), omega (arith, l, e)); down = λ j l e. (omega (arith, l, e), omega (arith, l, e)); low = λ g i l m. (omega (arith, l, m), omega (arith, l, m)); high = λ g i l m. omega (arith, l, m); all = omega arith }

turns_8 : Turns 8 16
turns_8 = record { inside = λ i j l m. omega (arith, l, m); turned = λ i j l m. omega (arith, l, m) }

pub half_4 : IsHalf 4 1085102592571150095
half_4 = record { some = omega arith; few = omega arith; bits = has_lower 4 1085102592571150095 refl; up = λ j l e. (omega (arith, l, e), omega (arith, l, e)); down = λ j l e. (omega (arith, l, e), omega (arith, l, e)); low = λ g i l m. (omega (arith, l, m), omega (arith, l, m)); high = λ g i l m. omega (arith, l, m); all = omega arith }

turns_4 : Turns 4 8
turns_4 = record { inside = λ i j l m. omega (arith, l, m); turned = λ i j l m. omega (arith, l, m) }

pub half_2 : IsHalf 2 3689348814741910323
half_2 = record { some = omega arith; few = omega arith; bits = has_lower 2 3689348814741910323 refl; up = λ j l e. (omega (arith, l, e), omega (arith, l, e)); down = λ j l e. (omega (arith, l, e), omega (arith, l, e)); low = λ g i l m. (omega (arith, l, m), omega (arith, l, m)); high = λ g i l m. omega (arith, l, m); all = omega arith }

turns_2 : Turns 2 4
turns_2 = record { inside = λ i j l m. omega (arith, l, m); turned = λ i j l m. omega (arith, l, m) }

pub half_1 : IsHalf 1 6148914691236517205
half_1 = record { some = omega arith; few = omega arith; bits = has_lower 1 6148914691236517205 refl; up = λ j l e. (omega (arith, l, e), omega (arith, l, e)); down = λ j l e. (omega (arith, l, e), omega (arith, l, e)); low = λ g i l m. (omega (arith, l, m), omega (arith, l, m)); high = λ g i l m. omega (arith, l, m); all = omega arith }

turns_1 : Turns 1 2
turns_1 = record { inside = λ i j l m. omega (arith, l, m); turned = λ i j l m. omega (arith, l, m) }

pub turned_round : (start a b c d e end : List ℕ) → Exchanged 32 start a → Exchanged 16 a b → Exchanged 8 b c → Exchanged 4 c d → Exchanged 2 d e → Exchanged 1 e end → IsTurned start end
turned_round start a b c d e end x32 x16 x8 x4 x2 x1 = λ i j l m.
    all i j l m ∙ ap (λ x. bit start x (i / 1 * 1 + j % 1)) (omega arith) ∙ ap (bit start j) (omega arith)
  where
    none : TurnedDownTo 64 start start
    none = λ i j l m. ap (λ x. bit start x j) (omega (arith, l, m)) ∙ ap (bit start (j / 64 * 64 + i % 64)) (omega (arith, l, m))

    all : TurnedDownTo 1 start end
    all =
        next_digit 1 2 start e end turns_1
        (next_digit 2 4 start d e turns_2
        (next_digit 4 8 start c d turns_4
        (next_digit 8 16 start b c turns_8
        (next_digit 16 32 start a b turns_16
        (next_digit 32 64 start start a turns_32 none x32) x16) x8) x4) x2) x1

-- ---- tables

pub turned_whole : (rows : List (Vec ℕ)) (table : List ℕ) → length table ≡ 16384 → ((place part : ℕ) → place < 16 → part < 16 → IsPartTurned rows place part table) → Turned rows table
turned_whole rows table len parts = record {
  len = len;
  exact = λ p r lp lr. (λ t. sym (same p r lp lr) ∙ t, λ m. same p r lp lr ∙ m);
}
  where
    same : (p r : ℕ) → p < 1024 → r < 1024 → has table (p * 1024 + r) ≡ has (row rows r) p
    same p r lp lr =
        let word : (p * 1024 + r) / 64 ≡ (p / 64 * 64 + p % 64) * 16 + r / 64 = omega arith in
        let at : (p * 1024 + r) % 64 ≡ r % 64 = omega arith in
        let whole : r / 64 * 64 + r % 64 ≡ r = omega arith in
        let turned = parts (p / 64) (r / 64) (omega arith) (omega arith) (p % 64) (r % 64) (omega arith) (omega arith) in
        ap (λ w. bit_at (slice_index table w) ((p * 1024 + r) % 64) == 1) word
        ∙ ap (λ b. bit_at (slice_index table ((p / 64 * 64 + p % 64) * 16 + r / 64)) b == 1) at
        ∙ ap (λ b. b == 1) turned
        ∙ ap (λ q. bit_at (slice_index (row rows q) (p / 64)) (p % 64) == 1) whole
