-- Texts put at places of a buffer, and the texts of numbers.
use Rattle.std.proofs.Common.{◌≡◌, ℕ, ◌+◌, ◌/◌, ◌%◌, ◌^◌, ◌<◌, ◌≤◌, List, [], ◌∷◌, ◌++◌, length, take, sym, ap, ◌∙◌, arith, append_assoc, length-take-le, take-add, take-take, take_at, drop_at, take_all}
use lib.Lanes.{chunk, put_chunk}
use Rattle.std.specs.Fmt.{decimal}
use Rattle.std.proofs.lemmas.Simd.{take_more_put_chunk}
use Rattle.std.proofs.lemmas.Fmt.{decimal_digit, decimal_step}
use Rattle.hq_certtext.specs.Rows.{three_digits}

-- of a text that was put only the first k bytes count
put_part : (old new text : List ℕ) (at k end : ℕ) → at ≤ length old → k ≤ length text → end ≡ at + length text → take end new ≡ take at old ++ text → take (at + k) new ≡ take at old ++ take k text
put_part old new text at k end within few ends e =
    let front = length-take-le at old within in
    sym (take-take (at + k) end new (omega arith)) ∙ ap (take (at + k)) e ∙ take-add at k (take at old ++ text)
    ∙ (λ i. take_at (take at old) text at front i ++ take k (drop_at (take at old) text at front i))

-- four bytes were put, of which the first k count
pub put_four : (old four : List ℕ) (at k : ℕ) → length four ≡ 4 → k ≤ 4 → at + 4 ≤ length old → take (at + k) (put_chunk at old (chunk 0 4 four)) ≡ take at old ++ take k four
put_four old four at k long few room =
    let same : chunk 0 4 four ≡ four = take_all 4 four (omega arith) in
    let size : length (chunk 0 4 four) ≡ 4 = length-take-le 4 four (omega arith) in
    put_part old (put_chunk at old (chunk 0 4 four)) four at k (at + 4) (omega arith) (omega arith) (omega arith)
    (take_more_put_chunk at old (chunk 0 4 four) (at + 4) (omega arith) room ∙ ap (λ t. take at old ++ t) same)

pub one_digit : (n : ℕ) → n < 10 → 32 ∷ (48 + n % 10) ∷ [] ≡ 32 ∷ decimal n
one_digit n h = let e : n % 10 ≡ n = omega arith in rw (decimal_digit n h, e)

pub two_digits : (n : ℕ) → 10 ≤ n → n < 100 → 32 ∷ (48 + n / 10 % 10) ∷ (48 + n % 10) ∷ [] ≡ 32 ∷ decimal n
two_digits n lo hi = let e : n / 10 % 10 ≡ n / 10 = omega arith in rw (decimal_step n lo (omega arith), decimal_digit (n / 10) (omega arith), e)

pub three_are : (n : ℕ) → 100 ≤ n → n < 1000 → 32 ∷ three_digits n ≡ 32 ∷ decimal n
three_are n lo hi =
    let e : n / 10 / 10 ≡ n / 100 = omega arith in
    rw (decimal_step n (omega arith) (omega arith), decimal_step (n / 10) (omega arith) (omega arith), decimal_digit (n / 10 / 10) (omega arith), e)

pub thousands : (n : ℕ) → 1000 ≤ n → n < 2 ^ 64 → decimal n ≡ decimal (n / 1000) ++ three_digits (n % 1000)
thousands n lo hi =
    let a : n / 10 / 10 / 10 ≡ n / 1000 = omega arith in
    let b : n / 10 / 10 % 10 ≡ n % 1000 / 100 = omega arith in
    let c : n / 10 % 10 ≡ n % 1000 / 10 % 10 = omega arith in
    let d : n % 10 ≡ n % 1000 % 10 = omega arith in
    rw (decimal_step n (omega arith) hi, decimal_step (n / 10) (omega arith) (omega arith), decimal_step (n / 10 / 10) (omega arith) (omega arith), append_assoc, append_assoc, a, b, c, d)
