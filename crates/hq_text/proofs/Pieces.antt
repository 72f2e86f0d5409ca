-- A text that is taken in piece by piece.
use Rattle.std.proofs.Common.{◌≡◌, ℕ, inl, inr, Bool, true, false, cond, List, [], ◌∷◌, ◌++◌, take, drop, refl, sym, ap, subst, ◌∙◌, append_assoc, append-nil}
use Rattle.std.specs.Prelude.{IfErr, OnOk, Result, Ok, Err}
use Rattle.std.specs.List.{slice_split, onto_first}
use Rattle.std.proofs.lemmas.List.{take-append-drop}
use Rattle.hq_text.specs.Lines.{lines_of, is_line_feed, without_empty_last}
use Rattle.hq_text.specs.declared.intake.Progress.{Progress}
use Rattle.hq_text.specs.declared.intake.Reading.{Reading}
use Rattle.hq_text.specs.declared.intake.Reading.TheVariants.{Faulty}
use Rattle.hq_text.specs.Intake.{Said, EndsLine, IsWhole, HasRead, Holds, Stays}
use Rattle.hq_text.proofs.Cuts.{Parts, parts_of, without}

-- ---- the lines of a text behind whole lines

onto_first_of : (c : ℕ) (parts more : List (List ℕ)) → Parts parts → onto_first c (parts ++ more) ≡ onto_first c parts ++ more
onto_first_of c parts more p = ap (λ ps. onto_first c (ps ++ more)) p.is ∙ ap (λ ps. onto_first c ps ++ more) (sym p.is)

parts_behind : (xs ys : List (List ℕ)) → Parts ys → Parts (xs ++ ys)
parts_behind [] ys p = p
parts_behind (x ∷ xs) ys p = record { first = x; others = xs ++ ys; is = refl }

split_feed : (x b : List ℕ) → slice_split is_line_feed (x ++ 10 ∷ b) ≡ slice_split is_line_feed x ++ slice_split is_line_feed b
split_feed [] b = refl
split_feed (c ∷ x) b = by (is_line_feed c) (split_feed x b) where
  by : (f : Bool) → slice_split is_line_feed (x ++ 10 ∷ b) ≡ slice_split is_line_feed x ++ slice_split is_line_feed b
      → cond f ([] ∷ slice_split is_line_feed (x ++ 10 ∷ b)) (onto_first c (slice_split is_line_feed (x ++ 10 ∷ b))) ≡ cond f ([] ∷ slice_split is_line_feed x) (onto_first c (slice_split is_line_feed x)) ++ slice_split is_line_feed b
  by true e = ap (λ ps. [] ∷ ps) e
  by false e = ap (onto_first c) e ∙ onto_first_of c (slice_split is_line_feed x) (slice_split is_line_feed b) (parts_of is_line_feed x)

without_behind : (xs ys : List (List ℕ)) → Parts ys → without_empty_last (xs ++ ys) ≡ xs ++ without_empty_last ys
without_behind [] ys p = refl
without_behind (x ∷ xs) ys p = without x (xs ++ ys) (parts_behind xs ys p) ∙ ap (λ ps. x ∷ ps) (without_behind xs ys p)

lines_feed : (x b : List ℕ) → lines_of (x ++ 10 ∷ b) ≡ slice_split is_line_feed x ++ lines_of b
lines_feed x b = ap without_empty_last (split_feed x b) ∙ without_behind (slice_split is_line_feed x) (slice_split is_line_feed b) (parts_of is_line_feed b)

lines_behind : (a b : List ℕ) → EndsLine a → lines_of (a ++ b) ≡ lines_of a ++ lines_of b
lines_behind a b e =
    ap (λ t. lines_of (t ++ b)) e.is ∙ ap lines_of (append_assoc e.front (10 ∷ []) b) ∙ lines_feed e.front b
    ∙ ap (λ ps. ps ++ lines_of b) (sym (ap lines_of e.is ∙ lines_feed e.front [] ∙ append-nil (slice_split is_line_feed e.front)))

pub whole_lines : (a b : List ℕ) → IsWhole a → lines_of (a ++ b) ≡ lines_of a ++ lines_of b
whole_lines a b (inl e) = ap (λ t. lines_of (t ++ b)) e ∙ ap (λ t. lines_of t ++ lines_of b) (sym e)
whole_lines a b (inr e) = lines_behind a b e

ends_behind : (text piece : List ℕ) → EndsLine piece → EndsLine (text ++ piece)
ends_behind text piece e = record { front = text ++ e.front; is = ap (λ t. text ++ t) e.is ∙ sym (append_assoc text e.front (10 ∷ [])) }

-- whole lines behind whole lines
pub whole_both : (a b : List ℕ) → IsWhole a → IsWhole b → IsWhole (a ++ b)
whole_both a b h (inl e) = subst (λ (t : List ℕ). IsWhole t) (sym (append-nil a) ∙ ap (λ t. a ++ t) (sym e)) h
whole_both a b h (inr e) = inr (ends_behind a b e)

-- ---- what waits

-- a piece that waits
pub held : {L : Type 0} (Took : Said L) (p q : Progress L) (piece : List ℕ) → q.taker ≡ p.taker → q.waiting.items ≡ p.waiting.items ++ piece → (text : List ℕ) → Holds Took p text → Holds Took q (text ++ piece)
held Took p q piece same waiting text h =
    record {
      before = h.before;
      whole = h.whole;
      is = ap (λ t. t ++ piece) h.is ∙ append_assoc h.before p.waiting.items piece ∙ ap (λ t. h.before ++ t) (sym waiting);
      taken = subst (λ l. Took (lines_of h.before) l) (sym same) h.taken;
    }

lines_so_far : {L : Type 0} (Took : Said L) (p : Progress L) (waiting text : List ℕ) → p.waiting.items ≡ waiting → (h : Holds Took p text) → lines_of text ≡ lines_of h.before ++ lines_of waiting
lines_so_far Took p waiting text same h = ap lines_of (h.is ∙ ap (λ t. h.before ++ t) same) ∙ whole_lines h.before waiting h.whole

pub waiting_taken : {L : Type 0} (Took : Said L) (p : Progress L) (waiting : List ℕ) (new : L) → p.waiting.items ≡ waiting → ((lines : List (List ℕ)) → Took lines p.taker → Took (lines ++ lines_of waiting) new)
    → (text : List ℕ) → Holds Took p text → Took (lines_of text) new
waiting_taken Took p waiting new same takes text h = subst (λ ls. Took ls new) (sym (lines_so_far Took p waiting text same h)) (takes (lines_of h.before) h.taken)

-- what is wrong with what waits
abbrev pub WrongWith : {L : Type 0} → Said L → (List (List ℕ) → Type 0) → L → List (List ℕ) → Type 0
WrongWith Took P old lines = (before more : List (List ℕ)) → Took before old → P (before ++ (lines ++ more))

pub waiting_refused : {L : Type 0} (Took : Said L) (P : List (List ℕ) → Type 0) (p : Progress L) (waiting : List ℕ) → p.waiting.items ≡ waiting → WrongWith Took P p.taker (lines_of waiting) → (text : List ℕ) → Holds Took p text → P (lines_of text)
waiting_refused Took P p waiting same wrong text h =
    subst P (sym (lines_so_far Took p waiting text same h ∙ ap (λ ls. lines_of h.before ++ ls) (sym (append-nil (lines_of waiting))))) (wrong (lines_of h.before) [] h.taken)

pub waiting_stays : {L : Type 0} (Took : Said L) (P : List (List ℕ) → Type 0) (p : Progress L) (waiting : List ℕ) → p.waiting.items ≡ waiting → WrongWith Took P p.taker (lines_of waiting) → (text : List ℕ) → EndsLine text → Holds Took p text → Stays P text
waiting_stays Took P p waiting same wrong text ends h more =
    subst P
    (sym (lines_behind text more ends ∙ ap (λ ls. ls ++ lines_of more) (lines_so_far Took p waiting text same h) ∙ append_assoc (lines_of h.before) (lines_of waiting) (lines_of more)))
    (wrong (lines_of h.before) (lines_of more) h.taken)

-- ---- whole lines

whole_held : {L : Type 0} (Took : Said L) (p : Progress L) (text : List ℕ) → EndsLine text → p.waiting.items ≡ [] → Took (lines_of text) p.taker → Holds Took p text
whole_held Took p text ends none h = record { before = text; whole = inr ends; is = sym (ap (λ t. text ++ t) none ∙ append-nil text); taken = h }

pub whole_taken : {A F L : Type 0} (Took : Said L) (r : Result A F) (p mid q : Progress L) (piece : List ℕ) → EndsLine piece → ((text : List ℕ) → Holds Took p text → Holds Took mid (text ++ piece))
    → OnOk r ((text : List ℕ) → Holds Took mid text → Took (lines_of text) q.taker) → OnOk r (q.waiting.items ≡ []) → OnOk r ((text : List ℕ) → Holds Took p text → Holds Took q (text ++ piece))
whole_taken Took (Ok a) p mid q piece ends waits taken none = λ text h. whole_held Took q (text ++ piece) (ends_behind text piece ends) none (taken (text ++ piece) (waits text h))
whole_taken Took (Err f) p mid q piece ends waits taken none = tt

pub whole_refused : {A F L : Type 0} (Took : Said L) (Refuses : Said F) (r : Result A F) (p mid : Progress L) (piece : List ℕ) → EndsLine piece → ((text : List ℕ) → Holds Took p text → Holds Took mid (text ++ piece))
    → IfErr r (λ f. (text : List ℕ) → EndsLine text → Holds Took mid text → Stays (λ lines. Refuses lines f) text) → IfErr r (λ f. (text : List ℕ) → Holds Took p text → Stays (λ lines. Refuses lines f) (text ++ piece))
whole_refused Took Refuses (Ok a) p mid piece ends waits fault = tt
whole_refused Took Refuses (Err f) p mid piece ends waits fault = λ text h. fault (text ++ piece) (ends_behind text piece ends) (waits text h)

-- what is so of each start, where the answer is Ok, or Err
pub on_ok_each : {A F L : Type 0} (P : L → Type 0) (r : Result A F) → ((from : L) → OnOk r (P from)) → OnOk r ((from : L) → P from)
on_ok_each P (Ok a) h = h
on_ok_each P (Err f) h = tt

pub on_ok_at : {A F L : Type 0} (P : L → Type 0) (r : Result A F) (from : L) → OnOk r ((l : L) → P l) → OnOk r (P from)
on_ok_at P (Ok a) from h = h from
on_ok_at P (Err f) from h = tt

pub if_err_each : {A F L : Type 0} (P : L → F → Type 0) (r : Result A F) → ((from : L) → IfErr r (P from)) → IfErr r (λ f. (from : L) → P from f)
if_err_each P (Ok a) h = tt
if_err_each P (Err f) h = h

pub if_err_at : {A F L : Type 0} (P : L → F → Type 0) (r : Result A F) (from : L) → IfErr r (λ f. (l : L) → P l f) → IfErr r (P from)
if_err_at P (Ok a) from h = tt
if_err_at P (Err f) from h = h from

-- ---- pieces in two parts

pub stays_more : (P : List (List ℕ) → Type 0) (text piece : List ℕ) → Stays P text → Stays P (text ++ piece)
stays_more P text piece h more = subst (λ (t : List ℕ). P (lines_of t)) (sym (append_assoc text piece more)) (h (piece ++ more))

pub cut_in_two : (piece front rest : List ℕ) (n : ℕ) → front ≡ take n piece → rest ≡ drop n piece → piece ≡ front ++ rest
cut_in_two piece front rest n e k = sym (ap (λ f. f ++ rest) e ∙ ap (λ r. take n piece ++ r) k ∙ take-append-drop n piece)

pub stays_both : (P : List (List ℕ) → Type 0) (text front rest piece : List ℕ) → piece ≡ front ++ rest → Stays P (text ++ front) → Stays P (text ++ piece)
stays_both P text front rest piece e h = subst (λ (t : List ℕ). Stays P t) (append_assoc text front rest ∙ ap (λ t. text ++ t) (sym e)) (stays_more P (text ++ front) rest h)

-- of a text that came to its end
pub stays_at_end : (P : List (List ℕ) → Type 0) (text : List ℕ) → Stays P text → P (lines_of text)
stays_at_end P text h = subst (λ (t : List ℕ). P (lines_of t)) (append-nil text) (h [])

-- the fault of what was read, at the end of the text
pub last_fault : {L F : Type 0} (Took : Said L) (Refuses : Said F) (r : Reading L F) (f : F) (text : List ℕ) → r ≡ Faulty f → HasRead Took Refuses r text → Refuses (lines_of text) f
last_fault {L} {F} Took Refuses r f text is h = stays_at_end (λ lines. Refuses lines f) text (subst (λ (q : Reading L F). HasRead Took Refuses q text) is h)
