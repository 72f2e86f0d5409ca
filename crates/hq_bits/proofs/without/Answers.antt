use Rattle.std.proofs.Common.{◌≡◌, ◌≤◌, ◌*◌, ◌^◌, ◌%◌, ap, inl, inr, arith, w64, bit_and}
use Rattle.std.specs.Int.{bit_at, bit_not}
use Rattle.std.proofs.lemmas.Bool.{cases_lt}
use Rattle.std.proofs.lemmas.Nat.{and_le_l}
use Rattle.std.proofs.lemmas.Nat.Bits.{bit_at_clear_same, bit_at_clear_other}
use Rattle.hq_bits.proofs.without.Goals as goal

pub returns : goal.returns
returns c =
    let clear = bit_at_clear_same w64 c.args.word c.args.bit c.requires.low in
    let new = bit_and c.args.word (bit_not w64 (1 * 2 ^ c.args.bit % 2 ^ 64)) in
    record {
      clear = clear;
      same = λ i l d. bit_at_clear_other w64 c.args.word c.args.bit c.requires.low i l d;
      less = elim (cases_lt new c.args.word) [
        | inl l ↦ l
        | inr h ↦
            let le : new ≤ c.args.word = and_le_l c.args.word (bit_not w64 (1 * 2 ^ c.args.bit % 2 ^ 64)) in
            let same : new ≡ c.args.word = omega arith in
            let is : bit_at new c.args.bit ≡ bit_at c.args.word c.args.bit = ap (λ w. bit_at w c.args.bit) same in
            absurd (let has = c.requires.has in omega arith)
      ];
    }
