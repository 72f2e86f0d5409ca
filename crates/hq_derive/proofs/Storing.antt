-- Lines are packed in numbers.
use Rattle.std.proofs.Common.{◌≡◌, ℕ, zero, suc, ◌+◌, ◌*◌, ◌/◌, ◌%◌, ◌<◌, ◌≤◌, List, [], ◌∷◌, ◌++◌, length, refl, sym, ◌∙◌, ap, subst, arith, map, Some, slice_get, slice_index_or, length-append, take}
use Rattle.std.specs.Option.{option_map}
use Rattle.std.proofs.lemmas.List.{length-map, map-append, take_more}
use Rattle.std.proofs.lemmas.List.Elements.{All-push}
use Rattle.std.proofs.lemmas.Option.{slice_get-map, slice_get_within, get_or_from_slice_get}
use Rattle.hq_job.proofs.Grouped.{get_before, get_after}
use Rattle.hq_cert.specs.declared.certificate.Line.{Line}
use Rattle.hq_cert.specs.View.{line_of}
use Rattle.hq_model.specs.Certificate as model
use Rattle.hq_model.specs.Certificate.{Says}
use Rattle.hq_derive.specs.declared.lone.Lone.{Lone}
use Rattle.hq_derive.specs.declared.short.Short.{Short}
use Rattle.hq_derive.specs.Needed.{IsNumber}
use Rattle.hq_derive.specs.Short.{form_of, p_of, r_of, first_of, second_of, if_kept, line_by, line_in, lone_line, IsPlaced, ArePlaced, PutsLine, StayPlaced}
use Rattle.hq_derive.proofs.Noting.{says_here}

-- ---- one line

same_by : (kept more : List Line) (form p r a b : ℕ) → (3 < form → a < length kept) → line_by (kept ++ more) form p r a b ≡ line_by kept form p r a b
same_by kept more zero p r a b h = refl
same_by kept more (suc zero) p r a b h = refl
same_by kept more (suc (suc zero)) p r a b h = refl
same_by kept more (suc (suc (suc zero))) p r a b h = refl
same_by kept more (suc (suc (suc (suc form)))) p r a b h = ap if_kept (get_before kept more a (h (omega arith)))

-- a line stays as it is where others are kept behind
same_in : (kept more : List Line) (s : Short) → IsPlaced (length kept) s → line_in (kept ++ more) s ≡ line_in kept s
same_in kept more s h = same_by kept more (form_of s) (p_of s) (r_of s) (first_of s) (second_of s) h

same_all : (kept more : List Line) (words : List Short) → ArePlaced kept words → map (line_in (kept ++ more)) words ≡ map (line_in kept) words
same_all kept more [] h = refl
same_all kept more (s ∷ words) h = ap (λ l. l ∷ map (line_in (kept ++ more)) words) (same_in kept more s (h 0 s (omega arith))) ∙ ap (λ ls. line_in kept s ∷ ls) (same_all kept more words (λ k d low. h (suc k) d (omega (arith, low))))

pub is_in : (kept : List Line) (s : Short) (form p r a b : ℕ) → form_of s ≡ form → p_of s ≡ p → r_of s ≡ r → first_of s ≡ a → second_of s ≡ b → line_in kept s ≡ line_by kept form p r a b
is_in kept s form p r a b e f g h i = rw (e, f, g, h, i) refl

-- ---- a store

pub words_pushed : (kept : List Line) (old new : List Short) (s : Short) (l : model.Line) → new ≡ old ++ s ∷ [] → line_in kept s ≡ l → map (line_in kept) new ≡ map (line_in kept) old ++ l ∷ []
words_pushed kept old new s l e is = ap (map (line_in kept)) e ∙ map-append (line_in kept) old (s ∷ []) ∙ ap (λ x. map (line_in kept) old ++ x ∷ []) is

pub placed_push : (kept : List Line) (old new : List Short) (s : Short) → new ≡ old ++ s ∷ [] → ArePlaced kept old → (3 < form_of s → first_of s < length kept) → ArePlaced kept new
placed_push kept old new s e h is = subst (ArePlaced kept) (sym e) (All-push (IsPlaced (length kept)) old s h is)

pub placed_more : (kept more : List Line) (words : List Short) → length kept ≤ length more → ArePlaced kept words → ArePlaced more words
placed_more kept more words long h = λ k d low four. let first = slice_index_or words k d in let there : first_of first < length kept = h k d low four in omega (arith, there, long)

pub last_kept : (kept : List Line) (x : Line) → slice_get (kept ++ x ∷ []) (length kept) ≡ Some x
last_kept kept x = let e : length kept ≡ length kept + 0 = omega arith in ap (slice_get (kept ++ x ∷ [])) e ∙ get_after kept (x ∷ []) 0

-- ---- the parts of a number

pub parts_are : (s : Short) (form p r a b : ℕ) → form < 8 → p < 1024 → r < 1024 → a < 1048576 → b < 1048576 → s.word ≡ form + 8 * (p + 1024 * (r + 1024 * (a + 1048576 * b)))
    → (form_of s ≡ form) × (p_of s ≡ p) × (r_of s ≡ r) × (first_of s ≡ a) × (second_of s ≡ b)
parts_are s form p r a b lf lp lr la lb e =
    let one : s.word % 8 ≡ form = omega (arith, lf, e) in
    let rest : s.word / 8 ≡ p + 1024 * (r + 1024 * (a + 1048576 * b)) = omega (arith, lf, e) in
    let two : s.word / 8 % 1024 ≡ p = omega (arith, lp, rest) in
    let rest2 : s.word / 8 / 1024 ≡ r + 1024 * (a + 1048576 * b) = omega (arith, lp, rest) in
    let three : s.word / 8 / 1024 % 1024 ≡ r = omega (arith, lr, rest2) in
    let rest3 : s.word / 8 / 1024 / 1024 ≡ a + 1048576 * b = omega (arith, lr, rest2) in
    let four : s.word / 8 / 1024 / 1024 % 1048576 ≡ a = omega (arith, la, rest3) in
    let rest4 : s.word / 8 / 1024 / 1024 / 1048576 ≡ b = omega (arith, la, rest3) in
    let five : s.word / 8 / 1024 / 1024 / 1048576 % 1048576 ≡ b = omega (arith, lb, rest4) in
    (one, two, three, four, five)

pub line_put : (form p r a b : ℕ) (old new : List Short) (s : Short) → new ≡ old ++ s ∷ [] → form_of s ≡ form → p_of s ≡ p → r_of s ≡ r → first_of s ≡ a → second_of s ≡ b → PutsLine form p r a b old new
line_put form p r a b old new s e f g h i j = λ kept. words_pushed kept old new s (line_by kept form p r a b) e (is_in kept s form p r a b f g h i j)

pub stay_placed : (form a : ℕ) (old new : List Short) (s : Short) → new ≡ old ++ s ∷ [] → form_of s ≡ form → first_of s ≡ a → StayPlaced form a old new
stay_placed form a old new s e f i = λ kept there all. placed_push kept old new s e all (λ four. subst (λ n. n < length kept) (sym i) (there (subst (λ n. 3 < n) f four)))

-- ---- of which packets a line is that isn't kept

pub by_form : (kept : List Line) (form p r a b : ℕ) → form < 4 → ((line_by kept form p r a b).p ≡ p) × ((line_by kept form p r a b).r ≡ r)
by_form kept zero p r a b l = (refl, refl)
by_form kept (suc zero) p r a b l = (refl, refl)
by_form kept (suc (suc zero)) p r a b l = (refl, refl)
by_form kept (suc (suc (suc zero))) p r a b l = (refl, refl)
by_form kept (suc (suc (suc (suc form)))) p r a b l = absurd (omega (arith, l))

pub word_says : (kept : List Line) (words : List Short) (lines : List model.Line) (k p r : ℕ) (s : Short) → map (line_in kept) words ≡ lines → slice_get words k ≡ Some s → form_of s < 4 → p_of s ≡ p → r_of s ≡ r
    → Says lines (length lines) k p r
word_says kept words lines k p r s e at low first second =
    let within : k < length words = slice_get_within words k s at in
    let long : length lines ≡ length words = sym (ap length e) ∙ length-map words (line_in kept) in
    let here : slice_get lines k ≡ Some (line_in kept s) = ap (λ v. slice_get v k) (sym e) ∙ slice_get-map (line_in kept) words k ∙ ap (option_map (line_in kept)) at in
    let of = by_form kept (form_of s) (p_of s) (r_of s) (first_of s) (second_of s) low in
    says_here lines k p r (line_in kept s) (omega (arith, within, long)) here (of.0 ∙ first) (of.1 ∙ second)

-- ---- the line of a barrier-OR is kept

pub kept_lines : (kept more : List Line) (x : Line) (old new : List Short) (p r a : ℕ) → more ≡ kept ++ x ∷ [] → ArePlaced kept old → PutsLine 4 p r a 0 old new → a ≡ length kept → map (line_in more) new ≡ map (line_in kept) old ++ line_of x ∷ []
kept_lines kept more x old new p r a e placed puts at =
    puts more ∙ ap (λ ls. ls ++ line_by more 4 p r a 0 ∷ []) (ap (λ m. map (line_in m) old) e ∙ same_all kept (x ∷ []) old placed)
    ∙ ap (λ l. map (line_in kept) old ++ l ∷ []) (ap if_kept (ap (λ m. slice_get m a) e ∙ ap (slice_get (kept ++ x ∷ [])) at ∙ last_kept kept x))

pub kept_placed : (kept more : List Line) (x : Line) (old new : List Short) (a : ℕ) → more ≡ kept ++ x ∷ [] → ArePlaced kept old → StayPlaced 4 a old new → a ≡ length kept → ArePlaced more new
kept_placed kept more x old new a e placed stay at =
    let long : length more ≡ length kept + 1 = ap length e ∙ length-append kept (x ∷ []) in
    stay more (λ four. omega (arith, at, long)) (placed_more kept more old (omega (arith, long)) placed)

-- ---- a line that cites none

pub lone_number : (lone : List Lone) (words lines : List model.Line) (k p r : ℕ) (l : Lone) → map lone_line lone ++ words ≡ lines → length lone + length words ≤ 1048576 → slice_get lone k ≡ Some l
    → (lone_line l).p ≡ p → (lone_line l).r ≡ r → IsNumber lines p r k
lone_number lone words lines k p r l e few at first second =
    let low : k < length lone = slice_get_within lone k l at in
    let same : length (map lone_line lone) ≡ length lone = length-map lone lone_line in
    let long : length lines ≡ length lone + length words = sym (ap length e) ∙ length-append (map lone_line lone) words ∙ ap (λ n. n + length words) same in
    let here : slice_get lines k ≡ Some (lone_line l) = ap (λ v. slice_get v k) (sym e) ∙ get_before (map lone_line lone) words k (omega (arith, low, same)) ∙ slice_get-map lone_line lone k ∙ ap (option_map lone_line) at in
    (says_here lines k p r (lone_line l) (omega (arith, low, long)) here first second, omega (arith, low, few))

-- ---- lines are told one by one

pub told_more : (lines : List model.Line) (k : ℕ) (old new : List Line) (x : Line) (l : model.Line) → new ≡ old ++ x ∷ [] → map line_of old ≡ take k lines → slice_get lines k ≡ Some l → line_of x ≡ l → map line_of new ≡ take (k + 1) lines
told_more lines k old new x l e h at is =
    let low : k < length lines = slice_get_within lines k l at in
    ap (map line_of) e ∙ map-append line_of old (x ∷ []) ∙ ap (λ ls. ls ++ line_of x ∷ []) h ∙ ap (λ y. take k lines ++ y ∷ []) (is ∙ sym (get_or_from_slice_get lines k l l at)) ∙ sym (take_more lines k l low)
