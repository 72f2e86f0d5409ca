-- What is printed between places, one text behind another, is all lines and all pair lines.
use Rattle.std.proofs.Common.{◌≡◌, ℕ, zero, suc, ◌<◌, ◌+◌, ◌-◌, ◌≤◌, inl, inr, List, [], ◌∷◌, ◌++◌, length, refl, sym, ◌∙◌, ap, ap₂, subst, arith, None, get_or, map, take, drop, append-nil, append_assoc}
use Rattle.std.specs.Global.{Vec}
use Rattle.std.specs.List.{AllZip}
use Rattle.std.proofs.lemmas.List.{take_all, take-append-drop, take-take, drop-take, length-take-le}
use Rattle.std.proofs.lemmas.Grind.{flat_map-append}
use Rattle.hq_text.specs.Printed.{line_text, lines_text}
use Rattle.hq_model.specs.Job.{Job}
use Rattle.hq_model.specs.Certificate as model
use Rattle.hq_audit.specs.declared.audited.Audited.{Audited}
use Rattle.hq_audit.specs.declared.packed.Packed.{Packed}
use Rattle.hq_audit.specs.Drafted.{listed}
use Rattle.hq_audit.specs.Audited.{lines_in, lists_in, list_in}
use Rattle.hq_audit.specs.Paired.{IsPairOf}
use Rattle.hq_certtext.specs.Grammar.{line_words, lines_words, pair_words}
use Rattle.hq_judging.specs.declared.piece.Piece.{Piece}
use Rattle.hq_judging.specs.declared.place.Place.{Place}
use Rattle.hq_judging.specs.Giving.{IsLinesText, IsPairsText, IsBodyText, IsWholeText}
use Rattle.hq_judging.specs.Places.{ArePieces, HasText, Leads, start_place, end_place, IsListsText, IsTextUpto, IsTextBetween}
use Rattle.hq_judging.proofs.Audited.{pairs_none, pairs_both, listed_step}

-- ---- lines behind lines

take_both : {A : Type 0} (m n : ℕ) (xs : List A) → take (m + n) xs ≡ take m xs ++ take n (drop m xs)
take_both m n xs =
    let low : m ≤ m + n = omega arith in
    sym (take-append-drop m (take (m + n) xs)) ∙ ap₂ (λ ys zs. ys ++ zs) (take-take m (m + n) xs low) (drop-take m n xs)

words_both : (k : ℕ) (xs ys : List model.Line) → lines_words k (xs ++ ys) ≡ lines_words k xs ++ lines_words (k + length xs) ys
words_both k [] ys = ap (λ n. lines_words n ys) (omega arith)
words_both k (x ∷ xs) ys =
    let n : k + 1 + length xs ≡ k + length (x ∷ xs) = omega arith in
    ap (λ ws. line_words k x ∷ ws) (words_both (k + 1) xs ys ∙ ap (λ m. lines_words (k + 1) xs ++ lines_words m ys) n)

-- the text of the first lines, and of those behind them
lines_both : (a : Audited) (from to : ℕ) (text : List ℕ) → from ≤ to → from ≤ length (lines_in a) → IsLinesText a from to text → lines_text (lines_words 0 (take from (lines_in a))) ++ text ≡ lines_text (lines_words 0 (take to (lines_in a)))
lines_both a from to text order within is =
    let ls = lines_in a in
    let front = take from ls in
    let rest = take (to - from) (drop from ls) in
    let all : from + (to - from) ≡ to = omega (arith, order) in
    let number : 0 + length front ≡ from = omega (arith, length-take-le from ls within) in
    ap (λ t. lines_text (lines_words 0 front) ++ t) is
    ∙ sym
    (ap (λ n. lines_text (lines_words 0 (take n ls))) (sym all) ∙ ap (λ l. lines_text (lines_words 0 l)) (take_both from (to - from) ls)
    ∙ ap lines_text (words_both 0 front rest ∙ ap (λ m. lines_words 0 front ++ lines_words m rest) number)
    ∙ flat_map-append line_text (lines_words 0 front) (lines_words from rest))

-- no lines
no_lines : (a : Audited) (from to : ℕ) (text : List ℕ) → to ≤ from → IsLinesText a from to text → text ≡ []
no_lines a from to text none is =
    let nothing : to - from ≡ 0 = omega (arith, none) in
    is ∙ ap (λ n. lines_text (lines_words from (take n (drop from (lines_in a))))) nothing

-- ---- lists behind lists

pub lists_none : (job : Job) (a : Audited) (from : ℕ) → IsListsText job a from from []
lists_none job a from = λ front h. subst (IsPairsText job a (listed (take from (lists_in a)))) (sym (append-nil front)) h

-- one more list
pub lists_more : (job : Job) (a : Audited) (from i : ℕ) (t s : List ℕ) → IsListsText job a from i t → IsPairsText job a (list_in a i) s → IsListsText job a from (i + 1) (t ++ s)
lists_more job a from i t s h k = λ front is.
    let ahead = listed (take i (lists_in a)) in
    let here = list_in a i in
    subst (λ ds. IsPairsText job a ds (front ++ (t ++ s))) (listed_step (lists_in a) i)
    (subst (IsPairsText job a (ahead ++ here)) (append_assoc front t s) (pairs_both job a ahead here (front ++ t) s (h front is) k))

-- no pair lines have no text
no_pairs : (job : Job) (a : Audited) (text : List ℕ) → IsPairsText job a [] text → text ≡ []
no_pairs job a text h = h.is ∙ ap (λ ps. lines_text (map pair_words ps)) (nothing h.pairs h.are)
  where
    nothing : (ps : List model.Pair) → AllZip (IsPairOf job (lines_in a)) [] ps → ps ≡ []
    nothing [] are = refl
    nothing (p ∷ ps) are = absurd are

-- ---- from place to place

pub between_both : (job : Job) (a : Audited) (p q r : Place) (t s : List ℕ) → IsTextBetween job a p q t → IsTextBetween job a q r s → IsTextBetween job a p r (t ++ s)
between_both job a p q r t s h k = λ front is. subst (IsTextUpto job a r) (append_assoc front t s) (k (front ++ t) (h front is))

pub leads_both : (a : Audited) (p q r : Place) → Leads a p q → Leads a q r → Leads a p r
leads_both a p q r h k = record { from = h.from; to = k.to; lines = omega (arith, h.lines, k.lines); lists = omega (arith, h.lists, k.lists) }

-- lines, and lists behind them
pub parts_between : (job : Job) (a : Audited) (p q : Place) (t s : List ℕ) → Leads a p q → IsLinesText a p.line q.line t → IsListsText job a p.list q.list s → IsTextBetween job a p q (t ++ s)
parts_between job a p q t s leads lines lists = λ front is. elim leads.from.behind [
  | inl first ↦ from_lines front is first
  | inr last ↦ from_lists front is last
]
  where
    all : List model.Line
    all = lines_in a

    vs : List (Vec Packed)
    vs = lists_in a

    from_lines : (front : List ℕ) → IsTextUpto job a p front → p.list ≡ 0 → IsTextUpto job a q (front ++ (t ++ s))
    from_lines front is first =
        let none : is.behind ≡ [] = no_pairs job a is.behind (subst (λ n. IsPairsText job a (listed (take n vs)) is.behind) first is.pairs) in
        let pairs = subst (λ n. IsListsText job a n q.list s) first lists [] (pairs_none job a) in
        record {
          behind = s;
          pairs = pairs;
          is =
              sym (append_assoc front t s) ∙ ap (λ x. (x ++ t) ++ s) (is.is ∙ ap (λ b. lines_text (lines_words 0 (take p.line all)) ++ b) none ∙ append-nil (lines_text (lines_words 0 (take p.line all))))
              ∙ ap (λ x. x ++ s) (lines_both a p.line q.line t leads.lines leads.from.within lines);
        }

    from_lists : (front : List ℕ) → IsTextUpto job a p front → p.line ≡ length all → IsTextUpto job a q (front ++ (t ++ s))
    from_lists front is last =
        let same : q.line ≡ p.line = omega (arith, last, leads.lines, leads.to.within) in
        let none : t ≡ [] = no_lines a p.line q.line t (omega (arith, same)) lines in
        record {
          behind = is.behind ++ s;
          pairs = lists is.behind is.pairs;
          is =
              ap (λ x. front ++ (x ++ s)) none ∙ ap (λ x. x ++ s) is.is ∙ append_assoc (lines_text (lines_words 0 (take p.line all))) is.behind s
              ∙ ap (λ n. lines_text (lines_words 0 (take n all)) ++ (is.behind ++ s)) (sym same);
        }

-- from the first place to the last
pub whole_between : (job : Job) (a : Audited) (text : List ℕ) → IsTextBetween job a start_place (end_place a) text → IsWholeText job a text
whole_between job a text between =
    let none : IsTextUpto job a start_place [] = record { behind = []; pairs = pairs_none job a; is = refl } in
    subst (λ vs. IsBodyText job a (length (lines_in a)) (listed vs) text) (take_all (length (lists_in a)) (lists_in a) (omega arith)) (between [] none)

-- ---- pieces

-- where pieces that begin here end
pub end_of : Place → List Piece → Place
end_of from [] = from
end_of from (piece ∷ pieces) = end_of piece.to pieces

-- one more that isn't printed
pub pieces_more : (job : Job) (a : Audited) (from next : Place) (ps : List Piece) → ArePieces job a from ps → Leads a (end_of from ps) next → ArePieces job a from (ps ++ record { to = next; text = None } ∷ [])
unfolding end_of
pieces_more job a from next [] are leads = (leads, tt, tt)
pieces_more job a from next (p ∷ ps) are leads = (are.0, are.1, pieces_more job a p.to next ps are.2 leads)

pub end_of_more : (from : Place) (ps : List Piece) (p : Piece) → end_of from (ps ++ p ∷ []) ≡ p.to
unfolding end_of
end_of_more from [] p = refl
end_of_more from (q ∷ ps) p = end_of_more q.to ps p

pub end_of_none : (from : Place) → end_of from [] ≡ from
unfolding end_of
end_of_none from = refl

-- what is known of the next one
pub next_piece : (job : Job) (a : Audited) (at : Place) (ps : List Piece) (k : ℕ) (d : Piece) → k < length ps → ArePieces job a at (drop k ps) → Leads a at (get_or ps k d).to × HasText job a at (get_or ps k d) × ArePieces job a (get_or ps k d).to (drop (k + 1) ps)
next_piece job a at [] k d low are = absurd (omega (arith, low))
next_piece job a at (p ∷ ps) zero d low are = are
next_piece job a at (p ∷ ps) (suc k) d low are =
    let found = next_piece job a at ps k d (omega (arith, low)) are in
    let more : suc (k + 1) ≡ suc k + 1 = omega arith in
    (found.0, found.1, subst (λ n. ArePieces job a (get_or ps k d).to (drop n (p ∷ ps))) more found.2)
