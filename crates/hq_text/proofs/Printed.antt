-- What is printed is cut into the same words again.
use Rattle.std.proofs.Common.{◌≡◌, ℕ, ◌+◌, ◌%◌, ◌^◌, ◌<◌, Bool, true, false, cond, List, [], ◌∷◌, ◌++◌, length, refl, sym, ap, ◌∙◌, append_assoc, append-nil, length-append, arith, eqb}
use Rattle.std.specs.Prelude.{map}
use Rattle.std.specs.List.{slice_split, onto_first, list_all, AllByRecursion}
use Rattle.std.specs.Fmt.{decimal}
use Rattle.std.proofs.lemmas.Fmt.{decimal_by_steps}
use Rattle.std.proofs.lemmas.Bool.Decides.{nat_tests}
use Rattle.std.proofs.lemmas.List.Folds.{list_all-append}
use Rattle.hq_text.specs.Lines.{is_space, is_line_feed, words_of, lines_of, without_empty_last}
use Rattle.hq_text.specs.Printed.{spaced, line_text, lines_text}
use Rattle.hq_text.proofs.Cuts.{parts_of, without}
use Rattle.hq_text.proofs.Lines.{drops_last}
use Rattle.hq_text.proofs.InTurn.{both}

-- neither a space nor a line feed
abbrev pub is_plain : ℕ → Bool
is_plain b = cond (eqb b 32) false (cond (eqb b 10) false true)

abbrev pub Plain : List ℕ → Type 0
Plain word = list_all is_plain word ≡ true

plain_both : (b : ℕ) → is_plain b ≡ true → (eqb b 32 ≡ false) × (eqb b 10 ≡ false)
plain_both b h = by (eqb b 32) (eqb b 10) h where
  by : (x y : Bool) → cond x false (cond y false true) ≡ true → (x ≡ false) × (y ≡ false)
  by true y e = absurd cc
  by false true e = absurd cc
  by false false e = (refl, refl)

digit_plain : (d : ℕ) → d < 10 → is_plain (48 + d) ≡ true
digit_plain d h = grind (arith, nat_tests)

plain_digit : (d : ℕ) → d < 10 → Plain ((48 + d) ∷ [])
plain_digit d h = rw (digit_plain d h) refl

pub plain_number : (n : ℕ) → n < 2 ^ 32 → Plain (decimal n)
plain_number n h = decimal_by_steps (λ m ds. Plain ds) (λ m lt. plain_digit m lt) (λ m ds le k. list_all-append is_plain ds ((48 + m % 10) ∷ []) ∙ rw (k, plain_digit (m % 10) (omega arith)) refl) n (omega arith)

-- ---- a line

word_cut : (w rest : List ℕ) → Plain w → slice_split is_space (w ++ 32 ∷ rest) ≡ w ∷ slice_split is_space rest
word_cut [] rest h = refl
word_cut (b ∷ w) rest h =
    let t = both (is_plain b) (list_all is_plain w) h in
    let p = plain_both b t.0 in
    rw (p.0) (ap (onto_first b) (word_cut w rest t.1))

word_last : (w : List ℕ) → Plain w → slice_split is_space w ≡ w ∷ []
word_last [] h = refl
word_last (b ∷ w) h =
    let t = both (is_plain b) (list_all is_plain w) h in
    let p = plain_both b t.0 in
    rw (p.0) (ap (onto_first b) (word_last w t.1))

-- a line without its line feed
abbrev bare : List (List ℕ) → List ℕ
bare [] = []
bare (word ∷ words) = word ++ spaced words

words_again : (w : List ℕ) (ws : List (List ℕ)) → Plain w → AllByRecursion Plain ws → words_of (w ++ spaced ws) ≡ w ∷ ws
words_again w [] h k = ap (slice_split is_space) (append-nil w) ∙ word_last w h
words_again w (v ∷ ws) h k = word_cut w (v ++ spaced ws) h ∙ ap (λ r. w ∷ r) (words_again v ws k.0 k.1)

-- a line that has words, all of them plain
pub record PlainLine (words : List (List ℕ)) : Type 0 where
  first : List ℕ
  others : List (List ℕ)
  is : words ≡ first ∷ others
  plain : Plain first
  plains : AllByRecursion Plain others

pub plain_line : (w : List ℕ) (ws : List (List ℕ)) → Plain w → AllByRecursion Plain ws → PlainLine (w ∷ ws)
plain_line w ws h k = record { first = w; others = ws; is = refl; plain = h; plains = k }

line_again : (words : List (List ℕ)) → PlainLine words → words_of (bare words) ≡ words
line_again words h = ap (λ ws. words_of (bare ws)) h.is ∙ words_again h.first h.others h.plain h.plains ∙ sym h.is

-- ---- the lines

-- no line feed in it
abbrev NoFeed : List ℕ → Type 0
NoFeed line = list_all (λ b. cond (eqb b 10) false true) line ≡ true

feed_none : (b : ℕ) → cond (eqb b 10) false true ≡ true → eqb b 10 ≡ false
feed_none b h = by (eqb b 10) h where
  by : (x : Bool) → cond x false true ≡ true → x ≡ false
  by true e = absurd cc
  by false e = refl

line_cut : (l rest : List ℕ) → NoFeed l → slice_split is_line_feed (l ++ 10 ∷ rest) ≡ l ∷ slice_split is_line_feed rest
line_cut [] rest h = refl
line_cut (b ∷ l) rest h =
    let t = both (cond (eqb b 10) false true) (list_all (λ x. cond (eqb x 10) false true) l) h in
    rw (feed_none b t.0) (ap (onto_first b) (line_cut l rest t.1))

plain_no_feed : (w : List ℕ) → Plain w → NoFeed w
plain_no_feed [] h = refl
plain_no_feed (b ∷ w) h =
    let t = both (is_plain b) (list_all is_plain w) h in
    let p = plain_both b t.0 in
    rw (p.1) (plain_no_feed w t.1)

no_feed_both : (a b : List ℕ) → NoFeed a → NoFeed b → NoFeed (a ++ b)
no_feed_both a b h k = list_all-append (λ x. cond (eqb x 10) false true) a b ∙ rw (h, k) refl

spaced_no_feed : (ws : List (List ℕ)) → AllByRecursion Plain ws → NoFeed (spaced ws)
spaced_no_feed [] h = refl
spaced_no_feed (w ∷ ws) h = no_feed_both w (spaced ws) (plain_no_feed w h.0) (spaced_no_feed ws h.1)

line_text_cut : (words : List (List ℕ)) (rest : List ℕ) → PlainLine words → slice_split is_line_feed (line_text words ++ rest) ≡ bare words ∷ slice_split is_line_feed rest
line_text_cut words rest h =
    ap (λ ws. slice_split is_line_feed (line_text ws ++ rest)) h.is
    ∙ ap (slice_split is_line_feed) (regroup h.first (spaced h.others) rest)
    ∙ line_cut (h.first ++ spaced h.others) rest (no_feed_both h.first (spaced h.others) (plain_no_feed h.first h.plain) (spaced_no_feed h.others h.plains))
    ∙ ap (λ ws. bare ws ∷ slice_split is_line_feed rest) (sym h.is)
  where
    regroup : (a b c : List ℕ) → (a ++ (b ++ 10 ∷ [])) ++ c ≡ (a ++ b) ++ 10 ∷ c
    regroup a b c = simp append_assoc

-- a line at the front of a text
pub record FirstLine (words : List (List ℕ)) (rest : List ℕ) : Type 0 where
  pub line : List ℕ
  pub cut : lines_of (line_text words ++ rest) ≡ line ∷ lines_of rest
  pub again : words_of line ≡ words
  pub some : 0 < length (line_text words)

pub line_first : (words : List (List ℕ)) (rest : List ℕ) → PlainLine words → FirstLine words rest
line_first words rest h =
    record {
      line = bare words;
      cut = ap without_empty_last (line_text_cut words rest h) ∙ without (bare words) (slice_split is_line_feed rest) (parts_of is_line_feed rest);
      again = line_again words h;
      some = let e = ap (λ ws. length (line_text ws)) h.is in let long = length-append h.first (spaced h.others ++ 10 ∷ []) in let more = length-append (spaced h.others) (10 ∷ []) in omega arith;
    }

parts_again : (lines : List (List (List ℕ))) → AllByRecursion PlainLine lines → slice_split is_line_feed (lines_text lines) ≡ map bare lines ++ [] ∷ []
parts_again [] h = refl
parts_again (words ∷ lines) h = line_text_cut words (lines_text lines) h.0 ∙ ap (λ r. bare words ∷ r) (parts_again lines h.1)

bares_again : (lines : List (List (List ℕ))) → AllByRecursion PlainLine lines → map words_of (map bare lines) ≡ lines
bares_again [] h = refl
bares_again (words ∷ lines) h = ap (λ w. w ∷ map words_of (map bare lines)) (line_again words h.0) ∙ ap (λ r. words ∷ r) (bares_again lines h.1)

pub lines_again : (lines : List (List (List ℕ))) → AllByRecursion PlainLine lines → map words_of (lines_of (lines_text lines)) ≡ lines
lines_again lines h = ap (map words_of) (ap without_empty_last (parts_again lines h) ∙ drops_last (map bare lines) [] refl) ∙ bares_again lines h
