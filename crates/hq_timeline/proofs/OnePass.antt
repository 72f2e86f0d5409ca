-- What one pass over a text finds, and that it is taken in.
use Rattle.std.proofs.Common.{◌≡◌, ℕ, ◌+◌, true, List, [], ◌∷◌, ◌++◌, length, Option, Some, None, Ok, refl, sym, ap, subst, ◌∙◌, arith, append_assoc, append-nil, length-append, eqb}
use Rattle.std.specs.Prelude.{MatchOption, IfSome}
use Rattle.std.specs.Fmt.{decimal}
use Rattle.std.specs.Bool.{Decides}
use Rattle.std.proofs.lemmas.Bool.{eqb-true, eq-eqb}
use Rattle.hq_text.specs.Ahead.{IsSmall, NumberAhead}
use Rattle.hq_text.specs.LineByLine.{AdmitsAll}
use Rattle.hq_text.specs.Lines.{lines_of}
use Rattle.hq_text.specs.Printed.{spaced, line_text}
use Rattle.hq_text.proofs.LineByLine.{Taken, admits_both, admits_more}
use Rattle.hq_text.proofs.Printed.{line_first}
use Rattle.hq_events.specs.declared.event.Event.{Event}
use Rattle.hq_timeline.specs.declared.kinds.OneNumber.{OneNumber}
use Rattle.hq_timeline.specs.declared.kinds.OneNumber.TheVariants as one
use Rattle.hq_timeline.specs.declared.kinds.TwoNumbers.{TwoNumbers}
use Rattle.hq_timeline.specs.declared.kinds.TwoNumbers.TheVariants as two
use Rattle.hq_timeline.specs.LineTests.{event_of_one, event_of_two}
use Rattle.hq_timeline.specs.declared.draft.Stage.TheVariants as stage
use Rattle.hq_timeline.specs.Gives.{TakesAll}
use Rattle.hq_timeline.specs.Grammar.{event_words, EventFits}
use Rattle.hq_timeline.specs.OnePass.{BothNumbers, EventAhead, TakenFrom}
use Rattle.hq_timeline.specs.TextStates.{State, added, add_content, add_event, with_event}
use Rattle.hq_timeline.proofs.Again.{plain_event}
use Rattle.hq_timeline.proofs.Parts.{event_is, not_last}

-- ---- words of a line

last_word : (text w rest : List ℕ) → text ≡ w ++ 10 ∷ rest → text ≡ line_text (w ∷ []) ++ rest
last_word text w rest e = e ∙ sym (append_assoc w (10 ∷ []) rest)

-- a word and its space in front
word_more : (text w t rest v : List ℕ) (ws : List (List ℕ)) → text ≡ w ++ 32 ∷ t → t ≡ line_text (v ∷ ws) ++ rest → text ≡ line_text (w ∷ v ∷ ws) ++ rest
word_more text w t rest v ws e f =
    e ∙ ap (λ r. w ++ 32 ∷ r) f ∙ ap (λ r. w ++ 32 ∷ (r ++ rest)) (sym (append_assoc v (spaced ws) (10 ∷ []))) ∙ sym (append_assoc w (32 ∷ ((v ++ spaced ws) ++ 10 ∷ [])) rest)

-- a name and one number, or two
one_fits : (kind : OneNumber) (a : ℕ) → IsSmall a → EventFits (event_of_one kind a)
one_fits one.Launch a h = h
one_fits one.Enter a h = h
one_fits one.Fetch a h = h
one_fits one.Deliver a h = h
one_fits one.Complete a h = h
one_fits one.Finish a h = h

pub one_ahead : (text name t rest : List ℕ) (kind : OneNumber) (n : ℕ) → ((a : ℕ) → event_words (event_of_one kind a) ≡ name ∷ decimal a ∷ []) → text ≡ name ++ 32 ∷ t → NumberAhead t n 10 rest
    → EventAhead text (event_of_one kind n) rest
one_ahead text name t rest kind n words e h =
    record {
      is = word_more text name t rest (decimal n) [] e (last_word t (decimal n) rest h.is) ∙ ap (λ ws. line_text ws ++ rest) (sym (words n));
      fits = one_fits kind n h.small;
    }

two_fit : (kind : TwoNumbers) (a b : ℕ) → IsSmall a → IsSmall b → EventFits (event_of_two kind a b)
two_fit two.PushLane a b h k = (h, k)
two_fit two.PushAgent a b h k = (h, k)
two_fit two.FillLane a b h k = (h, k)
two_fit two.FillAgent a b h k = (h, k)
two_fit two.DropLane a b h k = (h, k)
two_fit two.DropAgent a b h k = (h, k)
two_fit two.Read a b h k = (h, k)
two_fit two.Store a b h k = (h, k)
two_fit two.Observe a b h k = (h, k)

pub two_ahead : (text name t rest : List ℕ) (kind : TwoNumbers) (m n : ℕ) → ((a b : ℕ) → event_words (event_of_two kind a b) ≡ name ∷ decimal a ∷ decimal b ∷ []) → text ≡ name ++ 32 ∷ t → BothNumbers t m n rest
    → EventAhead text (event_of_two kind m n) rest
two_ahead text name t rest kind m n words e h =
    record {
      is = word_more text name t rest (decimal m) (decimal n ∷ []) e (word_more t (decimal m) h.mid rest (decimal n) [] h.first.is (last_word h.mid (decimal n) rest h.second.is))
          ∙ ap (λ ws. line_text ws ++ rest) (sym (words m n));
      fits = two_fit kind m n h.first.small h.second.small;
    }

pub both_ahead : (text mid rest : List ℕ) (m n : ℕ) → NumberAhead text m 32 mid → NumberAhead mid n 10 rest → BothNumbers text m n rest
both_ahead text mid rest m n a b = record { mid = mid; first = a; second = b }

-- ---- prefixes

pub from_match : {X : Type 0} (P : X → Type 0) (N : Type 0) (r : Option X) → MatchOption r N P → IfSome r P
from_match P N None m = tt
from_match P N (Some x) m = m

pub nat_tells : (a b : ℕ) → Decides (eqb a b) (a ≡ b)
nat_tells a b = (eqb-true a b, eq-eqb a b)

-- ---- lines taken in

pub none_taken_from : (text : List ℕ) (s t : State) → s ≡ t → TakenFrom text text 0 s t
none_taken_from text s t e = record { front = []; whole = refl; counted = refl; admitted = sym e; short = omega arith }

event_added : (s : State) (e : Event) → s.stage ≡ stage.Events → EventFits e → added s (event_words e) ≡ Ok (with_event s e)
unfolding added add_content add_event
event_added s e at h = rw (at, not_last e, event_is e h) refl

pub event_taken : (text rest behind : List ℕ) (count : ℕ) (old mid new : State) (e : Event) → TakenFrom text rest count old mid → mid.stage ≡ stage.Events → EventAhead rest e behind → new ≡ with_event mid e → TakenFrom text behind (count + 1) old new
event_taken text rest behind count old mid new e so at ahead is =
    let words = event_words e in
    let first = line_first words behind (plain_event e ahead.fits) in
    let line = first.line in
    record {
      front = so.front ++ line ∷ [];
      whole = so.whole ∙ ap (λ r. so.front ++ lines_of r) ahead.is ∙ ap (λ r. so.front ++ r) first.cut ∙ sym (append_assoc so.front (line ∷ []) (lines_of behind));
      counted = length-append so.front (line ∷ []) ∙ ap (λ n. n + 1) so.counted;
      admitted = admits_more added so.front old mid new line so.admitted (ap (added mid) first.again ∙ event_added mid e at ahead.fits ∙ ap (λ s. Ok s) (sym is));
      short = let l = so.short in let n = ap length ahead.is ∙ length-append (line_text words) behind in let some = first.some in omega arith;
    }

-- the lines of one pass behind those before
pub more_taken : (all text rest : List ℕ) (before count taken next : ℕ) (old mid new : State) → Taken added (lines_of all) (lines_of text) before count old mid → TakenFrom text rest taken mid new → next ≡ count + taken → Taken added (lines_of all) (lines_of rest) before next old new
more_taken all text rest before count taken next old mid new so more number =
    record {
      front = so.front ++ more.front;
      whole = so.whole ∙ ap (λ r. so.front ++ r) more.whole ∙ sym (append_assoc so.front more.front (lines_of rest));
      counted = let long = length-append so.front more.front in let a = so.counted in let b = more.counted in omega arith;
      admitted = admits_both added so.front more.front old mid new so.admitted more.admitted;
    }

pub all_taken : (all left : List ℕ) (before n : ℕ) (old s : State) → Taken added (lines_of all) (lines_of left) before n old s → true ≡ eqb (length left) 0 → TakesAll (Ok n) before (lines_of all) old s
all_taken all [] before n old s t e =
    let whole = t.whole ∙ append-nil t.front in
    (sym t.counted ∙ ap (λ ls. before + length ls) (sym whole), subst (λ (ls : List (List ℕ)). AdmitsAll added old ls s) (sym whole) t.admitted)
all_taken all (b ∷ left) before n old s t e = let none = eqb-true (length (b ∷ left)) 0 (sym e) in absurd (omega arith)
