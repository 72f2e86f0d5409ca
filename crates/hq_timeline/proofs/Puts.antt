-- Texts put behind one another, and written in between.
use Rattle.std.proofs.Common.{◌≡◌, ℕ, zero, suc, ◌+◌, ◌<◌, ◌≤◌, List, [], ◌∷◌, ◌++◌, length, get_or, take, Option, Some, None, refl, sym, ap, ◌∙◌, append_assoc, append-nil, arith, add-one}
use Rattle.std.specs.Prelude.{map}
use Rattle.std.specs.List.{AllByRecursion}
use Rattle.std.specs.Io.KnownBytes.{Appends, append_known}
use Rattle.std.proofs.lemmas.Grind.{flat_map-append}
use Rattle.hq_events.specs.declared.event.Event.{Event}
use Rattle.hq_timeline.specs.Grammar.{event_words, head_words, end_words}
use Rattle.hq_text.specs.Printed.{line_text, lines_text}
use Rattle.hq_timeline.specs.Printed.{text_of}

-- ---- with a writer

pub put_known : (w : Option (List ℕ)) (old new t : List ℕ) → new ≡ old ++ t → Appends (append_known w old) (append_known w new) t
put_known None old new t e = tt
put_known (Some xs) old new t e = ap (λ ys. xs ++ ys) e ∙ sym (append_assoc xs old t)

appends_same : (a b c : Option (List ℕ)) (s t all : List ℕ) → Appends a b s → Appends b c t → all ≡ s ++ t → Appends a c all
appends_same None b c s t all h k e = tt
appends_same (Some xs) None c s t all h k e = absurd h
appends_same (Some xs) (Some ys) None s t all h k e = absurd k
appends_same (Some xs) (Some ys) (Some zs) s t all h k e = k ∙ ap (λ r. r ++ t) h ∙ append_assoc xs s t ∙ ap (λ r. xs ++ r) (sym e)

-- one more text put, and what is there written or not
pub put_and_spilled : (a : Option (List ℕ)) (w v : Option (List ℕ)) (old new left s t all : List ℕ) → Appends a (append_known w old) s → new ≡ old ++ t → Appends (append_known w new) (append_known v left) [] → all ≡ s ++ t → Appends a (append_known v left) all
put_and_spilled a w v old new left s t all h made k e =
    appends_same a (append_known w new) (append_known v left) all [] all (appends_same a (append_known w old) (append_known w new) s t all h (put_known w old new t made) e) k (sym (append-nil all))

next : {A B : Type 0} (v : A → B) (xs : List A) (i : ℕ) (d : A) → i < length xs → map v (take (suc i) xs) ≡ map v (take i xs) ++ v (get_or xs i d) ∷ []
next v [] i d lt = absurd (omega arith)
next v (x ∷ xs) zero d lt = refl
next v (x ∷ xs) (suc i) d lt = ap (λ ys. v x ∷ ys) (next v xs i d (omega arith))

whole : {A : Type 0} (xs : List A) (i : ℕ) → length xs ≤ i → take i xs ≡ xs
whole [] zero le = refl
whole [] (suc i) le = refl
whole (x ∷ xs) zero le = absurd (omega arith)
whole (x ∷ xs) (suc i) le = ap (λ ys. x ∷ ys) (whole xs i (omega arith))

one_text : (ws : List (List ℕ)) → lines_text (ws ∷ []) ≡ line_text ws
one_text ws = append-nil (line_text ws)

-- the text of the lines up to i, and of line i
pub event_next : {A : Type 0} (f : A → List (List ℕ)) (xs : List A) (i : ℕ) (d : A) → i < length xs
    → lines_text (map f (take (i + 1) xs)) ≡ lines_text (map f (take i xs)) ++ line_text (f (get_or xs i d))
event_next f xs i d lt =
    ap lines_text (rw add-one (next f xs i d lt))
    ∙ flat_map-append line_text (map f (take i xs)) (f (get_or xs i d) ∷ [])
    ∙ ap (λ t. lines_text (map f (take i xs)) ++ t) (one_text (f (get_or xs i d)))

-- what all up to i fit, all up to i and item i do
pub one_fits : {A : Type 0} (P : A → Type 0) (xs : List A) (i : ℕ) (d : A) → i < length xs → AllByRecursion P (take i xs) → P (get_or xs i d) → AllByRecursion P (take (i + 1) xs)
one_fits {A = A} P xs i d lt h f = rw add-one (by xs i lt h f) where
  by : (xs : List A) (i : ℕ) → i < length xs → AllByRecursion P (take i xs) → P (get_or xs i d) → AllByRecursion P (take (suc i) xs)
  by [] i lt h f = absurd (omega arith)
  by (x ∷ xs) zero lt h f = (f, tt)
  by (x ∷ xs) (suc i) lt h f = (h.0, by xs i (omega arith) h.1 f)

-- ---- the whole text

pub all_written : (a b c : Option (List ℕ)) (first second third head l e all : List ℕ) → first ≡ head
    → Appends (append_known a first) (append_known b second) l → third ≡ second ++ e → Appends b c third
    → all ≡ head ++ (l ++ e) → Appends a c all
all_written None b c first second third head l e all is h made out whole_is = tt
all_written (Some x) None c first second third head l e all is h made out whole_is = absurd h
all_written (Some x) (Some y) None first second third head l e all is h made out whole_is = absurd out
all_written (Some x) (Some y) (Some z) first second third head l e all is h made out whole_is =
    out ∙ ap (λ r. y ++ r) made ∙ sym (append_assoc y second e) ∙ ap (λ r. r ++ e) (h ∙ ap (λ r. (x ++ r) ++ l) is)
    ∙ joined x head l e ∙ ap (λ r. x ++ r) (sym whole_is)
  where
    joined : (x head l e : List ℕ) → ((x ++ head) ++ l) ++ e ≡ x ++ (head ++ (l ++ e))
    joined x head l e = simp append_assoc

-- the text by what was put
pub text_is : (events now : List Event) → events ≡ now → text_of now ≡ line_text head_words ++ (lines_text (map event_words events) ++ line_text end_words)
text_is events now is =
    ap text_of (sym is) ∙ ap (λ t. line_text head_words ++ t) (flat_map-append line_text (map event_words events) (end_words ∷ []) ∙ ap (λ t. lines_text (map event_words events) ++ t) (one_text end_words))
