-- The number that a text begins with, digit by digit.
use Rattle.std.proofs.Common.{◌≡◌, ℕ, ◌+◌, ◌*◌, ◌/◌, ◌%◌, ◌^◌, ◌<◌, ◌≤◌, List, [], ◌∷◌, ◌++◌, length, get_or, take, refl, sym, ap, ◌∙◌, arith, add-one}
use Rattle.std.proofs.Math.Nat.{pow-suc, pow-le-pow_right}
use Rattle.std.proofs.lemmas.Fmt.{decimal_digit, decimal_step}
use Rattle.std.proofs.lemmas.List.{take_more}
use Rattle.hq_text.specs.Ahead.{DigitsAhead, DigitsSoFar}

-- eight digits have 32 bits
pub eight : (i number : ℕ) → i ≤ 8 → number < 10 ^ i → number < 100000000
eight i number le l = let p : 10 ^ i ≤ 100000000 = pow-le-pow_right {n = 10} (omega arith) le in omega arith

pub room_for_digit : (text : List ℕ) (n count digit : ℕ) → DigitsSoFar text n count → count ≤ 8 → digit ≤ 9 → n * 10 + digit < 4294967296
room_for_digit text n count digit so le low = let top = eight count n le so.few in omega arith

-- one digit more
pub one_more_digit : (text : List ℕ) (n count digit b : ℕ) → DigitsSoFar text n count → count < length text → count ≤ 8 → b ≡ get_or text count 0 → 48 + digit ≡ b → digit ≤ 9 → DigitsSoFar text (n * 10 + digit) (count + 1)
one_more_digit text n count digit b so lt le is at low =
    let bound = so.few in
    let some = so.some in
    let top = eight count n le bound in
    let front : (n * 10 + digit) / 10 ≡ n = omega arith in
    let last : 48 + (n * 10 + digit) % 10 ≡ b = omega arith in
    record {
      are = take_more text count 0 lt ∙ ap (λ c. take count text ++ c ∷ []) (sym is) ∙ ap (λ t. t ++ b ∷ []) so.are ∙ sym (rw (decimal_step (n * 10 + digit) (omega arith) (omega arith), front, last) refl);
      some = omega arith;
      few = let p : 10 ^ (count + 1) ≡ 10 ^ count * 10 = rw add-one (pow-suc 10 count) in omega arith;
    }

pub so_far_ahead : (text : List ℕ) (n count : ℕ) → DigitsSoFar text n count → count < length text → count ≤ 8 → DigitsAhead text n count
so_far_ahead text n count so lt le = let low = eight count n le so.few in record { goes_on = lt; are = so.are; small = omega arith }

pub zero_digit : (text : List ℕ) → 10 ≤ length text → get_or text 0 0 ≡ 48 → DigitsAhead text 0 1
zero_digit [] long e = absurd (omega arith)
zero_digit (d ∷ more) long e = record { goes_on = omega arith; are = ap (λ c. c ∷ []) e ∙ sym (decimal_digit 0 (omega arith)); small = omega arith }

-- the first digit, where it isn't `0`
pub first_digit : (text : List ℕ) (digit b : ℕ) → 10 ≤ length text → b ≡ get_or text 0 0 → 48 + digit ≡ b → 0 < digit → digit ≤ 9 → DigitsSoFar text digit 1
first_digit [] digit b long is at some low = absurd (omega arith)
first_digit (d ∷ more) digit b long is at some low =
    let e : d ≡ 48 + digit = omega arith in
    record { are = ap (λ c. c ∷ []) e ∙ sym (decimal_digit digit (omega arith)); some = some; few = omega arith }
