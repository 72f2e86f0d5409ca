-- The first word of a line, and the line behind it.
use Rattle.std.proofs.Common.{◌≡◌, ℕ, ◌+◌, ◌-◌, ◌<◌, List, [], ◌∷◌, length, take, drop, Some, None, sym, ap, subst, ◌∙◌, arith, length-drop}
use Rattle.std.specs.Prelude.{position}
use Rattle.std.specs.List.{position_or_len}
use Rattle.std.proofs.lemmas.List.Splits.{slice_split_first, slice_split_none}
use Rattle.std.proofs.lemmas.List.Sums.{fails_before_first}
use Rattle.hq_text.specs.Lines.{is_space, words_of}
use Rattle.hq_text.proofs.Cuts.{Parts, all_of, parts_of, first_place, no_place}

pub cut_word : (line : List ℕ) (at n : ℕ) → position is_space line ≡ Some at → n ≡ length line - (at + 1)
    → words_of line ≡ take at line ∷ words_of (take n (drop (at + 1) line))
cut_word line at n e len =
    let place = first_place is_space line at e in
    let lt : position_or_len is_space line < length line = omega (arith, place.0, place.1) in
    let whole : take n (drop (at + 1) line) ≡ drop (at + 1) line = all_of (drop (at + 1) line) n (omega (arith, length-drop (at + 1) line)) in
    let split : words_of line ≡ take at line ∷ words_of (drop (at + 1) line)
    = subst (λ (k : ℕ). words_of line ≡ take k line ∷ words_of (drop (k + 1) line)) place.0 (slice_split_first is_space line 0 lt) in
    split ∙ ap (λ t. take at line ∷ words_of t) (sym whole)

pub last_word : (line : List ℕ) → position is_space line ≡ None → words_of line ≡ line ∷ []
last_word line e = let le = no_place is_space line e in slice_split_none is_space line (λ k x h. fails_before_first is_space line k x (omega arith))

-- words are never none
pub word_there : (line : List ℕ) → Parts (words_of line)
word_there line = parts_of is_space line
