-- What was read ahead of a text, and what it leaves once it is taken in.
use Rattle.std.proofs.Common.{◌≡◌, ℕ, ◌+◌, ◌⊎◌, inl, inr, List, [], ◌++◌, length, drop, sym, ap, subst, ◌∙◌, arith, append-nil, length-append}
use Rattle.hq_text.specs.LineByLine.{AdmitsAll}
use Rattle.hq_text.proofs.LineByLine.{admits_both}
use Rattle.hq_model.specs.Certificate as model
use Rattle.hq_certread.specs.declared.ahead.Ahead.{Ahead}
use Rattle.hq_certread.specs.declared.progress.Progress.{Progress}
use Rattle.hq_certread.specs.Ahead.{BeginsWith, IsAhead, lines_ahead, pairs_ahead, with_more}
use Rattle.hq_certread.specs.DraftView.{behind, kept_of}
use Rattle.hq_certread.specs.SoFar.{HasPassed, HasTaken, IsPast, lines_in, pairs_in}
use Rattle.hq_certread.specs.TextFaults.{State, start, added}
use Rattle.hq_certread.proofs.LetGo.{all_stay, lines_stand, none_behind, nothing_in_front}
use Rattle.hq_certread.proofs.Taking.{begins_with_none}

-- nothing was read ahead
pub none_ahead : (text : List ℕ) (a : Ahead) → a.lines.items ≡ [] → a.pairs.items ≡ [] → a.count ≡ 0 → a.bytes ≡ 0 → IsAhead text a
none_ahead text a lines pairs count bytes = record { within = omega (arith, bytes); begins = rw (lines, pairs, count, bytes) (begins_with_none a.next a.before text) }

-- what was read ahead is taken in
pub passed : (text : List ℕ) (a : Ahead) (lines : List (List ℕ)) (front : List model.Line) (gone : List model.Pair) (old new : Progress) → old.draft.stage ≡ a.next → old.draft.gone + length (lines_in old) ≡ a.before → IsAhead text a → HasTaken lines front gone old
    → lines_in old ≡ [] → pairs_in old ≡ [] → new.draft.gone ≡ old.draft.gone + length (lines_ahead a) → kept_of new.draft ≡ kept_of old.draft → new.count ≡ old.count + a.count → HasPassed text a lines front gone a.bytes old new
passed text a lines front gone old new next before is h none none_too more_gone state count = record {
  within = is.within;
  more = so.front;
  whole = so.whole;
  before = let n = h.numbered in let m = ap length none in omega (arith, n, m, before);
  taken = record {
    counted = let n = length-append lines so.front in let m = so.counted in let k = h.counted in count ∙ ap (λ x. x + a.count) k ∙ ap (λ x. length lines + x) (sym m) ∙ sym n;
    numbered = more_gone ∙ ap (λ n. n + length (lines_ahead a)) h.numbered ∙ sym (length-append front (lines_ahead a));
    admitted = subst (λ (u : State). AdmitsAll added start (lines ++ so.front) u) same (admits_both added lines so.front start s t h.admitted steps);
  };
  no_lines = ap (λ (u : State). u.lines) state ∙ none;
  no_pairs = ap (λ (u : State). u.pairs) state ∙ none_too;
  stand = stand_too (lines_stand lines so.front s t h.admitted steps);
  closed = λ past. let k = all_stay so.front s t past steps in (subst IsPast (sym (ap (λ (u : State). u.stage) state)) past, none_ahead_of k.lines);
}
  where
    so : BeginsWith (lines_ahead a) (pairs_ahead a) a.next a.before text (drop a.bytes text) a.count
    so = is.begins

    s : State
    s = behind front gone (kept_of old.draft)

    t : State
    t = with_more s (lines_ahead a) (pairs_ahead a)

    number : length (front ++ lines_in old) ≡ a.before
    number = length-append front (lines_in old) ∙ ap (λ n. n + length (lines_in old)) (sym h.numbered) ∙ before

    steps : AdmitsAll added s so.front t
    steps = so.admitted s next number

    -- where none was read ahead but what stood there
    none_ahead_of : (front ++ lines_in old) ++ lines_ahead a ≡ front ++ lines_in old → lines_ahead a ≡ []
    none_ahead_of e = none_behind (front ++ lines_in old) (lines_ahead a) e

    stand_too : ((gone ++ pairs_in old) ≡ []) ⊎ ((front ++ lines_in old) ++ lines_ahead a ≡ front ++ lines_in old) → (gone ≡ []) ⊎ (lines_ahead a ≡ [])
    stand_too (inl e) = inl (nothing_in_front gone (pairs_in old) e)
    stand_too (inr e) = inr (none_ahead_of e)

    -- behind what was let go and nothing
    joined : {A : Type 0} (xs ys zs : List A) → ys ≡ [] → (xs ++ ys) ++ zs ≡ (xs ++ zs) ++ ys
    joined xs ys zs e = ap (λ us. (xs ++ us) ++ zs) e ∙ ap (λ us. us ++ zs) (append-nil xs) ∙ sym (append-nil (xs ++ zs)) ∙ ap (λ us. (xs ++ zs) ++ us) (sym e)

    same : t ≡ behind (front ++ lines_ahead a) (gone ++ pairs_ahead a) (kept_of new.draft)
    same =
        ap (λ (ls : List model.Line). record { stage = s.stage; chained = s.chained; order = s.order; lines = ls; pairs = (gone ++ pairs_in old) ++ pairs_ahead a }) (joined front (lines_in old) (lines_ahead a) none)
        ∙ ap (λ (ps : List model.Pair). record { stage = s.stage; chained = s.chained; order = s.order; lines = (front ++ lines_ahead a) ++ lines_in old; pairs = ps }) (joined gone (pairs_in old) (pairs_ahead a) none_too)
        ∙ ap (behind (front ++ lines_ahead a) (gone ++ pairs_ahead a)) (sym state)
