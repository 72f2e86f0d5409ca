-- What a name's characters are.
use Rattle.std.proofs.Common.{◌≡◌, ℕ, zero, suc, ◌<◌, ◌≤◌, true, List, [], ◌∷◌, ◌++◌, length, take, drop, refl, ap, arith}
use Rattle.std.specs.Prelude.{◌&&◌, nat_lt, replicate, MatchResult, IsOk, Result, Ok, Err}
use Rattle.std.specs.List.{list_all}
use Rattle.std.specs.Str.{IsAscii, IsUtf8}
use Rattle.std.proofs.lemmas.Str.{IsUtf8-from_ascii}
use Rattle.std.proofs.lemmas.List.{drop-replicate}
use Rattle.std.proofs.lemmas.Bool.Decides.{nat_tests}
use Rattle.std.proofs.Math.Seq.{take-append_seam}
use Rattle.hq_text.specs.Names.{is_letter, is_name_char, is_name, IsName}
use Rattle.hq_text.specs.Padded.{Padded}
use Rattle.hq_text.proofs.InTurn.{both}

letter_low : (c : ℕ) → is_letter c ≡ true → c < 128
letter_low c h = grind (arith, nat_tests)

char_low : (c : ℕ) → is_name_char c ≡ true → c < 128
char_low c h = grind (arith, nat_tests)

cons_ascii : (c : ℕ) (cs : List ℕ) → c < 128 → IsAscii cs → IsAscii (c ∷ cs)
cons_ascii c cs low rest zero = low
cons_ascii c cs low rest (suc i) = rest i

chars_ascii : (cs : List ℕ) → list_all is_name_char cs ≡ true → IsAscii cs
chars_ascii [] h = λ i. omega arith
chars_ascii (c ∷ cs) h = let t = both (is_name_char c) (list_all is_name_char cs) h in cons_ascii c cs (char_low c t.0) (chars_ascii cs t.1)

name_ascii : (word : List ℕ) → IsName word → IsAscii word
unfolding is_name
name_ascii [] h = absurd cc
name_ascii (c ∷ cs) h =
    let t = both (is_letter c && list_all is_name_char cs) (nat_lt (length cs) 16) h in
    let u = both (is_letter c) (list_all is_name_char cs) t.0 in
    cons_ascii c cs (letter_low c u.0) (chars_ascii cs u.1)

pub name_text : (E : Type 0) (word : List ℕ) (A : Type 0) (r : Result A E) (P : A → Type 0) (Q : E → Type 0) → IsName word → MatchResult r P (λ e. ¬ (IsUtf8 word) × Q e) → IsOk r
name_text E word A (Ok s) P Q name m = refl
name_text E word A (Err e) P Q name m = absurd (m.0 (IsUtf8-from_ascii word (name_ascii word name)))

pub padded_word : (word bytes zeros : List ℕ) → bytes ≡ word → IsName word → length word ≤ 16 → zeros ≡ replicate 16 0 → Padded (record { bytes = bytes ++ drop (length word) zeros; len = length word })
padded_word word bytes zeros same name short z =
    let whole : take (length word) (bytes ++ drop (length word) zeros) ≡ word = rw same (take-append_seam word (drop (length word) zeros)) in
    record {
      name = rw whole name;
      len = ap length whole;
      zeros = rw (whole, same, z) (ap (λ r. word ++ r) (drop-replicate (length word) 16 0));
    }
