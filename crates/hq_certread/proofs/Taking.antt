-- Lines that one pass found are taken in.
use Rattle.std.proofs.Common.{◌≡◌, ℕ, ◌+◌, List, [], ◌∷◌, ◌++◌, length, Ok, refl, sym, ap, subst, ◌∙◌, arith, append_assoc, append-nil, length-append, true, false, eqb}
use Rattle.std.proofs.lemmas.Bool.{eqb-true}
use Rattle.hq_text.specs.LineByLine.{AdmitsAll}
use Rattle.hq_text.specs.Lines.{lines_of}
use Rattle.hq_text.specs.Printed.{line_text}
use Rattle.hq_text.proofs.LineByLine.{Taken, admits_both, admits_more}
use Rattle.hq_text.proofs.Printed.{PlainLine, line_first}
use Rattle.hq_model.specs.Certificate as model
use Rattle.hq_certread.specs.declared.draft.Stage.{Stage}
use Rattle.hq_certread.specs.declared.draft.Stage.TheVariants as stage
use Rattle.hq_certread.specs.Ahead.{BeginsWith, LeadingLines, LeadingPairs, with_more}
use Rattle.hq_certtext.specs.Grammar.{line_words, pair_words, LineFits, PairFits}
use Rattle.hq_certread.specs.DraftView.{behind}
use Rattle.hq_certread.specs.OnePass.{LineAhead, PairAhead, TakenFrom}
use Rattle.hq_certread.specs.TextFaults.{State, with_line, with_pair, added, add_content, add_line, add_behind, add_pair}
use Rattle.hq_certread.proofs.LinesRead.{line_is}
use Rattle.hq_certread.proofs.PairsRead.{pair_is}
use Rattle.hq_certtext.proofs.Split.{plain_line_of, plain_pair_of}
use Rattle.hq_certread.specs.Gives.{TakesAll}

pub none_taken_from : (text : List ℕ) (s t : State) → s ≡ t → TakenFrom text text 0 s t
none_taken_from text s t e = record { front = []; whole = refl; counted = refl; admitted = sym e; short = omega arith }

-- the text begins with nothing, too
pub begins_with_none : (next : Stage) (before : ℕ) (text : List ℕ) → BeginsWith [] [] next before text text 0
begins_with_none next before text = record {
  front = [];
  whole = refl;
  counted = refl;
  short = omega arith;
  read = [];
  cut = refl;
  admitted = λ s at number. none_more s;
}
  where
    none_more : (s : State) → with_more s [] [] ≡ s
    none_more s =
        ap (λ (ls : List model.Line). record { stage = s.stage; chained = s.chained; order = s.order; lines = ls; pairs = s.pairs ++ [] }) (append-nil s.lines)
        ∙ ap (λ (ps : List model.Pair). record { stage = s.stage; chained = s.chained; order = s.order; lines = s.lines; pairs = ps }) (append-nil s.pairs)

-- one line more, by its words
one_more : (text rest behind : List ℕ) (count before : ℕ) (next : Stage) (lines more : List model.Line) (pairs others : List model.Pair) (words : List (List ℕ)) → BeginsWith lines pairs next before text rest count → PlainLine words → rest ≡ line_text words ++ behind
    → ((s : State) → s.stage ≡ next → length s.lines ≡ before → added (with_more s lines pairs) words ≡ Ok (with_more s more others)) → BeginsWith more others next before text behind (count + 1)
one_more text rest behind count before next lines more pairs others words so plain cut adds =
    let first = line_first words behind plain in
    let line = first.line in
    record {
      front = so.front ++ line ∷ [];
      whole = so.whole ∙ ap (λ r. so.front ++ lines_of r) cut ∙ ap (λ r. so.front ++ r) first.cut ∙ sym (append_assoc so.front (line ∷ []) (lines_of behind));
      counted = length-append so.front (line ∷ []) ∙ ap (λ n. n + 1) so.counted;
      short = let l = so.short in let n = ap length cut ∙ length-append (line_text words) behind in let some = first.some in omega arith;
      read = so.read ++ line_text words;
      cut = so.cut ∙ ap (λ r. so.read ++ r) cut ∙ sym (append_assoc so.read (line_text words) behind);
      admitted = λ s at number. admits_more added so.front s (with_more s lines pairs) (with_more s more others) line (so.admitted s at number) (ap (added (with_more s lines pairs)) first.again ∙ adds s at number);
    }

line_added : (s : State) (l : model.Line) → s.stage ≡ stage.Lines → LineFits (length s.lines) l → added s (line_words (length s.lines) l) ≡ Ok (with_line s l)
unfolding added add_content add_line
line_added s l at h = rw (at, line_is (length s.lines) l h) refl

pair_added : (s : State) (p : model.Pair) → s.stage ≡ stage.Pairs → PairFits s.chained (length s.lines) p → added s (pair_words p) ≡ Ok (with_pair s p)
unfolding added add_content add_behind add_pair
pair_added s p at h = rw (at, pair_is s.chained (length s.lines) p h) refl

line_more : (s : State) (lines : List model.Line) (l : model.Line) (before k : ℕ) → s.stage ≡ stage.Lines → length s.lines ≡ before → k ≡ before + length lines → LineFits k l → added (with_more s lines []) (line_words k l) ≡ Ok (with_more s (lines ++ l ∷ []) [])
line_more s lines l before k at number is fits =
    let n : length (s.lines ++ lines) ≡ k = length-append s.lines lines ∙ ap (λ m. m + length lines) number ∙ sym is in
    subst (λ (m : ℕ). added (with_more s lines []) (line_words m l) ≡ Ok (with_more s (lines ++ l ∷ []) [])) n
    (line_added (with_more s lines []) l at (subst (λ (m : ℕ). LineFits m l) (sym n) fits)
    ∙ ap (λ (t : State). Ok t)
    (ap (λ (st : Stage). record { stage = st; chained = s.chained; order = s.order; lines = (s.lines ++ lines) ++ l ∷ []; pairs = s.pairs ++ [] }) (sym at)
    ∙ ap (λ (ls : List model.Line). record { stage = s.stage; chained = s.chained; order = s.order; lines = ls; pairs = s.pairs ++ [] }) (append_assoc s.lines lines (l ∷ []))))

pair_more : (s : State) (pairs : List model.Pair) (p : model.Pair) (before : ℕ) → s.stage ≡ stage.Pairs → length s.lines ≡ before → PairFits s.chained before p → added (with_more s [] pairs) (pair_words p) ≡ Ok (with_more s [] (pairs ++ p ∷ []))
pair_more s pairs p before at number fits =
    let n : length (s.lines ++ []) ≡ before = ap length (append-nil s.lines) ∙ number in
    pair_added (with_more s [] pairs) p at (subst (λ (m : ℕ). PairFits s.chained m p) (sym n) fits)
    ∙ ap (λ (t : State). Ok t)
    (ap (λ (st : Stage). record { stage = st; chained = s.chained; order = s.order; lines = s.lines ++ []; pairs = (s.pairs ++ pairs) ++ p ∷ [] }) (sym at)
    ∙ ap (λ (ps : List model.Pair). record { stage = s.stage; chained = s.chained; order = s.order; lines = s.lines ++ []; pairs = ps }) (append_assoc s.pairs pairs (p ∷ [])))

-- nothing is put behind what was there
pub no_leading_lines : (before : ℕ) (text : List ℕ) (lines : List model.Line) → LeadingLines before text text 0 lines lines
no_leading_lines before text lines = record { more = []; behind = sym (append-nil lines); begins = begins_with_none stage.Lines before text }

pub no_leading_pairs : (before : ℕ) (text : List ℕ) (pairs : List model.Pair) → LeadingPairs before text text 0 pairs pairs
no_leading_pairs before text pairs = record { more = []; behind = sym (append-nil pairs); begins = begins_with_none stage.Pairs before text }

-- one line more
pub line_taken : (text rest behind : List ℕ) (count before k : ℕ) (old mid new : List model.Line) (l : model.Line) → LeadingLines before text rest count old mid → k + length old ≡ before + length mid → LineAhead k rest l behind → new ≡ mid ++ l ∷ [] → LeadingLines before text behind (count + 1) old new
line_taken text rest behind count before k old mid new l so number ahead adds =
    let is : k ≡ before + length so.more = let n = ap length so.behind ∙ length-append old so.more in omega (arith, n, number) in
    record {
      more = so.more ++ l ∷ [];
      behind = adds ∙ ap (λ ls. ls ++ l ∷ []) so.behind ∙ append_assoc old so.more (l ∷ []);
      begins = one_more text rest behind count before stage.Lines so.more (so.more ++ l ∷ []) [] [] (line_words k l) so.begins (plain_line_of k l ahead.fits) ahead.is (λ s at number. line_more s so.more l before k at number is ahead.fits);
    }

pub number_more : (before k : ℕ) (old mid new : List model.Line) (l : model.Line) → k + length old ≡ before + length mid → new ≡ mid ++ l ∷ [] → k + 1 + length old ≡ before + length new
number_more before k old mid new l is adds = let n = ap length adds ∙ length-append mid (l ∷ []) in omega (arith, is, n)

-- one pair line more
pub pair_taken : (text rest behind : List ℕ) (count before : ℕ) (old mid new : List model.Pair) (p : model.Pair) → LeadingPairs before text rest count old mid → PairAhead before rest p behind → new ≡ mid ++ p ∷ [] → LeadingPairs before text behind (count + 1) old new
pair_taken text rest behind count before old mid new p so ahead adds =
    record {
      more = so.more ++ p ∷ [];
      behind = adds ∙ ap (λ ps. ps ++ p ∷ []) so.behind ∙ append_assoc old so.more (p ∷ []);
      begins = one_more text rest behind count before stage.Pairs [] [] so.more (so.more ++ p ∷ []) (pair_words p) so.begins (plain_pair_of false before p (ahead.fits false)) ahead.is (λ s at number. pair_more s so.more p before at number (ahead.fits s.chained));
    }

-- ---- taken in behind what is there

taken_from : (lines : List model.Line) (pairs : List model.Pair) (next : Stage) (before : ℕ) (text rest : List ℕ) (count : ℕ) (s t : State) → BeginsWith lines pairs next before text rest count → s.stage ≡ next → length s.lines ≡ before → t ≡ with_more s lines pairs → TakenFrom text rest count s t
taken_from lines pairs next before text rest count s t so at number is = record {
  front = so.front;
  whole = so.whole;
  counted = so.counted;
  admitted = subst (λ (u : State). AdmitsAll added s so.front u) (sym is) (so.admitted s at number);
  short = so.short;
}

pub lines_taken : (before : ℕ) (text rest : List ℕ) (count : ℕ) (front : List model.Line) (s : State) (new : List model.Line) → LeadingLines before text rest count s.lines new → s.stage ≡ stage.Lines → before ≡ length (front ++ s.lines)
    → TakenFrom text rest count (behind front [] s) (record { stage = s.stage; chained = s.chained; order = s.order; lines = front ++ new; pairs = s.pairs })
lines_taken before text rest count front s new so at number =
    taken_from so.more [] stage.Lines before text rest count (behind front [] s) _ so.begins at (sym number)
    (ap (λ (ls : List model.Line). record { stage = s.stage; chained = s.chained; order = s.order; lines = ls; pairs = s.pairs }) (ap (λ (ls : List model.Line). front ++ ls) so.behind ∙ sym (append_assoc front s.lines so.more))
    ∙ ap (λ (ps : List model.Pair). record { stage = s.stage; chained = s.chained; order = s.order; lines = (front ++ s.lines) ++ so.more; pairs = ps }) (sym (append-nil s.pairs)))

pub pairs_taken : (before : ℕ) (text rest : List ℕ) (count : ℕ) (s : State) (new : List model.Pair) → LeadingPairs before text rest count s.pairs new → s.stage ≡ stage.Pairs → before ≡ length s.lines
    → TakenFrom text rest count s (record { stage = s.stage; chained = s.chained; order = s.order; lines = s.lines; pairs = new })
pairs_taken before text rest count s new so at number =
    taken_from [] so.more stage.Pairs before text rest count s _ so.begins at (sym number)
    (ap (λ (ps : List model.Pair). record { stage = s.stage; chained = s.chained; order = s.order; lines = s.lines; pairs = ps }) so.behind
    ∙ ap (λ (ls : List model.Line). record { stage = s.stage; chained = s.chained; order = s.order; lines = ls; pairs = s.pairs ++ so.more }) (sym (append-nil s.lines)))

-- the lines of one pass behind those before
pub more_taken : (all text rest : List ℕ) (before count taken next : ℕ) (old mid new : State) → Taken added (lines_of all) (lines_of text) before count old mid → TakenFrom text rest taken mid new → next ≡ count + taken → Taken added (lines_of all) (lines_of rest) before next old new
more_taken all text rest before count taken next old mid new so more number =
    record {
      front = so.front ++ more.front;
      whole = so.whole ∙ ap (λ r. so.front ++ r) more.whole ∙ sym (append_assoc so.front more.front (lines_of rest));
      counted = let long = length-append so.front more.front in let a = so.counted in let b = more.counted in omega arith;
      admitted = admits_both added so.front more.front old mid new so.admitted more.admitted;
    }

pub all_taken : (all left : List ℕ) (before n : ℕ) (old s : State) → Taken added (lines_of all) (lines_of left) before n old s → true ≡ eqb (length left) 0 → TakesAll (Ok n) before (lines_of all) old s
all_taken all [] before n old s t e =
    let whole = t.whole ∙ append-nil t.front in
    (sym t.counted ∙ ap (λ ls. before + length ls) (sym whole), subst (λ (ls : List (List ℕ)). AdmitsAll added old ls s) (sym whole) t.admitted)
all_taken all (b ∷ left) before n old s t e = let none = eqb-true (length (b ∷ left)) 0 (sym e) in absurd (omega arith)
