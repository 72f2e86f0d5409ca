-- What the lines so far spell, and that what is spelled is admitted.
use Rattle.std.proofs.Common.{◌≡◌, ℕ, ◌+◌, Bool, true, false, cond, List, [], ◌∷◌, ◌++◌, length, refl, sym, ap, subst, ◌∙◌, append_assoc, append-nil, length-append, arith}
use Rattle.std.specs.Prelude.{◌&&◌, codes, map, Ok, Err, nat_le}
use Rattle.std.specs.List.{AllByRecursion}
use Rattle.std.specs.Fmt.{decimal}
use Rattle.std.specs.Str.{bytes_eq}
use Rattle.std.proofs.lemmas.Bool.{leb-true, le-leb}
use Rattle.std.proofs.lemmas.List.{length-map, map-append}
use Rattle.hq_model.specs.Certificate as model
use Rattle.hq_certread.specs.declared.fault.CertReason.TheVariants as reason
use Rattle.hq_certread.specs.declared.draft.Stage.{Stage}
use Rattle.hq_certread.specs.declared.draft.Stage.TheVariants as stage
use Rattle.hq_certtext.specs.Grammar.{head_words, order_words, line_words, lines_words, pair_words, certificate_words, OrderFits, LineFits, LinesFit, PairFits, CertificateFits}
use Rattle.hq_certread.specs.LineTests.{head_said, order_said, line_said, pair_said, number_said, each}
use Rattle.hq_certread.specs.TextFaults.{State, start, with_head, with_order, with_line, with_pair, with_end, is_end, is_ended, read_of, add_head, add_order, add_line, add_pair, add_end, add_behind, add_content, add_at, added}
use Rattle.hq_certtext.proofs.Puts.{lines_more}
use Rattle.hq_text.proofs.LineByLine.{AddsAll, adds_both}
use Rattle.hq_text.proofs.InTurn.{steps, ok_is, both, word_is}
use Rattle.hq_certread.proofs.Parts.{numbers_ok, numbers_are}
use Rattle.hq_certread.proofs.LinesRead.{line_ok, line_is}
use Rattle.hq_certread.proofs.PairsRead.{pair_ok, pair_is}

abbrev Words : Type 0
Words = List (List ℕ)

-- the lines that a state was left by
abbrev so_far : Stage → State → List Words
so_far stage.Head s = []
so_far stage.Order s = head_words s.chained ∷ []
so_far stage.Lines s = head_words s.chained ∷ order_words s.order ∷ lines_words 0 s.lines
so_far stage.Pairs s = head_words s.chained ∷ order_words s.order ∷ (lines_words 0 s.lines ++ map pair_words s.pairs)
so_far stage.Ended s = certificate_words s.chained (read_of s)

-- what is empty yet
abbrev pub Shape : Stage → State → Type 0
Shape stage.Head s = (s.lines ≡ []) × (s.pairs ≡ [])
Shape stage.Order s = (s.lines ≡ []) × (s.pairs ≡ [])
Shape stage.Lines s = s.pairs ≡ []
Shape stage.Pairs s = Unit {0}
Shape stage.Ended s = Unit {0}

-- the lines so far spell the state
pub record Kept (words : List Words) (s : State) : Type 0 where
  pub spelled : words ≡ so_far s.stage s
  pub shape : Shape s.stage s
  pub fits : CertificateFits s.chained (read_of s)

-- ---- lists of lines

fit_more : (k : ℕ) (ls : List model.Line) (l : model.Line) → LinesFit k ls → LineFits (k + length ls) l → LinesFit k (ls ++ l ∷ [])
fit_more k [] l h f = let n : k + 0 ≡ k = omega arith in (subst (λ (m : ℕ). LineFits m l) n f, tt)
fit_more k (x ∷ ls) l h f = let n : k + length (x ∷ ls) ≡ k + 1 + length ls = omega arith in (h.0, fit_more (k + 1) ls l h.1 (subst (λ (m : ℕ). LineFits m l) n f))

pairs_more : (P : model.Pair → Type 0) (ps : List model.Pair) (p : model.Pair) → AllByRecursion P ps → P p → AllByRecursion P (ps ++ p ∷ [])
pairs_more P [] p h f = (f, tt)
pairs_more P (x ∷ ps) p h f = (h.0, pairs_more P ps p h.1 f)

-- ---- one more line

head_ok : (words : Words) (ch : Bool) → head_said words ≡ Ok ch → words ≡ head_words ch
unfolding head_said
head_ok [] ch e = absurd cc
head_ok (a ∷ []) ch e = absurd cc
head_ok (a ∷ b ∷ []) ch e = by (bytes_eq a (codes "hsac") && bytes_eq b (codes "1")) (bytes_eq a (codes "hsac") && bytes_eq b (codes "2")) refl refl e where
  same : (c d : List ℕ) → a ≡ c → b ≡ d → a ∷ b ∷ [] ≡ c ∷ d ∷ []
  same c d p q = cc

  by : (x y : Bool) → (bytes_eq a (codes "hsac") && bytes_eq b (codes "1")) ≡ x → (bytes_eq a (codes "hsac") && bytes_eq b (codes "2")) ≡ y → cond x (Ok false) (cond y (Ok true) (Err reason.Word)) ≡ Ok ch → a ∷ b ∷ [] ≡ head_words ch
  by true y p q e = let t = both (bytes_eq a (codes "hsac")) (bytes_eq b (codes "1")) p in same _ _ (word_is a _ t.0) (word_is b _ t.1) ∙ ap head_words (ok_is false ch e)
  by false true p q e = let t = both (bytes_eq a (codes "hsac")) (bytes_eq b (codes "2")) q in same _ _ (word_is a _ t.0) (word_is b _ t.1) ∙ ap head_words (ok_is true ch e)
  by false false p q e = absurd cc
head_ok (a ∷ b ∷ c ∷ more) ch e = absurd cc

record OrderRead (words : Words) (order : List ℕ) : Type 0 where
  spelled : words ≡ order_words order
  fits : OrderFits order

order_ok : (words : Words) (order : List ℕ) → order_said words ≡ Ok order → OrderRead words order
unfolding order_said
order_ok [] order e = absurd cc
order_ok (a ∷ ns) order e = by (bytes_eq a (codes "order") && nat_le (length ns) 1024) refl e where
  by : (x : Bool) → (bytes_eq a (codes "order") && nat_le (length ns) 1024) ≡ x → cond x (each number_said ns) (Err reason.Word) ≡ Ok order → OrderRead (a ∷ ns) order
  by true p e =
      let t = both (bytes_eq a (codes "order")) (nat_le (length ns) 1024) p in
      let n = numbers_ok ns order e in
      let few = leb-true (length ns) 1024 t.1 in
      let long : length ns ≡ length order = ap length n.0 ∙ length-map order decimal in
      record { spelled = ap (λ w. w ∷ ns) (word_is a (codes "order") t.0) ∙ ap (λ ws. codes "order" ∷ ws) n.0; fits = record { few = omega arith; small = n.1 } }
  by false p e = absurd cc

kept_if : (words : List Words) (s t : State) → s ≡ t → Kept words s → Kept words t
kept_if words s t e h = subst (λ (u : State). Kept words u) e h

-- nothing fits trivially
none_fit : (ch : Bool) (s : State) → s.lines ≡ [] → s.pairs ≡ [] → OrderFits s.order → CertificateFits ch (read_of s)
none_fit ch s no_lines no_pairs order =
    record {
      order = order;
      lines = subst (λ (ls : List model.Line). LinesFit 0 ls) (sym no_lines) tt;
      pairs = subst (λ (ps : List model.Pair). AllByRecursion (PairFits ch (length s.lines)) ps) (sym no_pairs) tt;
    }

kept_head : (words : List Words) (w : Words) (s t : State) → words ≡ [] → (s.lines ≡ []) × (s.pairs ≡ []) → OrderFits s.order → add_head s w ≡ Ok t → Kept (words ++ w ∷ []) t
unfolding add_head
kept_head words w s t none shape order e =
    let h = steps (head_said w) (λ ch. Ok (with_head s ch)) t e in
    kept_if (words ++ w ∷ []) (with_head s h.value) t (ok_is _ t h.next)
    (record {
      spelled = ap (λ ws. ws ++ w ∷ []) none ∙ ap (λ v. v ∷ []) (head_ok w h.value h.first);
      shape = shape;
      fits = none_fit h.value s shape.0 shape.1 order;
    })

kept_order : (words : List Words) (w : Words) (s t : State) → words ≡ head_words s.chained ∷ [] → (s.lines ≡ []) × (s.pairs ≡ []) → add_order s w ≡ Ok t → Kept (words ++ w ∷ []) t
unfolding add_order
kept_order words w s t is shape e =
    let h = steps (order_said w) (λ order. Ok (with_order s order)) t e in
    let o = order_ok w h.value h.first in
    kept_if (words ++ w ∷ []) (with_order s h.value) t (ok_is _ t h.next)
    (record {
      spelled = ap (λ ws. ws ++ w ∷ []) is ∙ ap (λ v. head_words s.chained ∷ v ∷ []) o.spelled ∙ ap (λ ls. head_words s.chained ∷ order_words h.value ∷ lines_words 0 ls) (sym shape.0);
      shape = shape.1;
      fits = none_fit s.chained (with_order s h.value) shape.0 shape.1 o.fits;
    })

kept_line : (words : List Words) (others : Words) (s t : State) → words ≡ so_far stage.Lines s → s.pairs ≡ [] → CertificateFits s.chained (read_of s) → add_line s others ≡ Ok t → Kept (words ++ (codes "line" ∷ others) ∷ []) t
unfolding add_line
kept_line words others s t is none fits e =
    let h = steps (line_said (length s.lines) others) (λ line. Ok (with_line s line)) t e in
    let l = line_ok (length s.lines) others h.value h.first in
    let at : 0 + length s.lines ≡ length s.lines = omega arith in
    kept_if (words ++ (codes "line" ∷ others) ∷ []) (with_line s h.value) t (ok_is _ t h.next)
    (record {
      spelled = ap (λ ws. ws ++ (codes "line" ∷ others) ∷ []) is ∙ ap (λ w. head_words s.chained ∷ order_words s.order ∷ (lines_words 0 s.lines ++ w ∷ [])) l.spelled
          ∙ ap (λ n. head_words s.chained ∷ order_words s.order ∷ (lines_words 0 s.lines ++ line_words n h.value ∷ [])) (sym at)
          ∙ ap (λ ws. head_words s.chained ∷ order_words s.order ∷ ws) (sym (lines_more 0 s.lines h.value));
      shape = none;
      fits = record {
        order = fits.order;
        lines = fit_more 0 s.lines h.value fits.lines (subst (λ (n : ℕ). LineFits n h.value) (sym at) l.fits);
        pairs = subst (λ (ps : List model.Pair). AllByRecursion (PairFits s.chained (length (s.lines ++ h.value ∷ []))) ps) (sym none) tt;
      };
    })

-- with the pair lines so far
abbrev all_so_far : State → List Words
all_so_far s = so_far stage.Pairs s

kept_pair : (words : List Words) (others : Words) (s t : State) → words ≡ all_so_far s → CertificateFits s.chained (read_of s) → add_pair s others ≡ Ok t → Kept (words ++ (codes "pair" ∷ others) ∷ []) t
unfolding add_pair
kept_pair words others s t is fits e =
    let h = steps (pair_said s.chained (length s.lines) others) (λ pair. Ok (with_pair s pair)) t e in
    let p = pair_ok s.chained (length s.lines) others h.value h.first in
    let front = lines_words 0 s.lines in
    kept_if (words ++ (codes "pair" ∷ others) ∷ []) (with_pair s h.value) t (ok_is _ t h.next)
    (record {
      spelled = ap (λ ws. ws ++ (codes "pair" ∷ others) ∷ []) is ∙ ap (λ w. head_words s.chained ∷ order_words s.order ∷ ((lines_words 0 s.lines ++ map pair_words s.pairs) ++ w ∷ [])) p.spelled
          ∙ ap (λ ws. head_words s.chained ∷ order_words s.order ∷ ws) (append_assoc (lines_words 0 s.lines) (map pair_words s.pairs) (pair_words h.value ∷ []) ∙ ap (λ ws. lines_words 0 s.lines ++ ws) (sym (map-append pair_words s.pairs (h.value ∷ []))));
      shape = tt;
      fits = record {
        order = fits.order;
        lines = fits.lines;
        pairs = pairs_more (PairFits s.chained (length s.lines)) s.pairs h.value fits.pairs p.fits;
      };
    })

kept_end : (words : List Words) (others : Words) (s t : State) → words ≡ all_so_far s → CertificateFits s.chained (read_of s) → add_end s others ≡ Ok t → Kept (words ++ (codes "end" ∷ others) ∷ []) t
unfolding add_end
kept_end words [] s t is fits e =
    kept_if (words ++ (codes "end" ∷ []) ∷ []) (with_end s) t (ok_is _ t e)
    (record {
      spelled = ap (λ ws. ws ++ (codes "end" ∷ []) ∷ []) is ∙ ap (λ ws. head_words s.chained ∷ order_words s.order ∷ ws) (append_assoc (lines_words 0 s.lines) (map pair_words s.pairs) ((codes "end" ∷ []) ∷ []));
      shape = tt;
      fits = fits;
    })
kept_end words (x ∷ more) s t is fits e = absurd cc

kept_behind : (words : List Words) (first : List ℕ) (others : Words) (s t : State) → words ≡ all_so_far s → CertificateFits s.chained (read_of s) → add_behind s first others ≡ Ok t → Kept (words ++ (first ∷ others) ∷ []) t
unfolding add_behind
kept_behind words first others s t is fits e = by (bytes_eq first (codes "pair")) (bytes_eq first (codes "end")) refl refl e where
  renamed : (w : List ℕ) → first ≡ w → Kept (words ++ (w ∷ others) ∷ []) t → Kept (words ++ (first ∷ others) ∷ []) t
  renamed w p k = subst (λ (v : List ℕ). Kept (words ++ (v ∷ others) ∷ []) t) (sym p) k

  by : (x y : Bool) → bytes_eq first (codes "pair") ≡ x → bytes_eq first (codes "end") ≡ y → cond x (add_pair s others) (cond y (add_end s others) (Err reason.Word)) ≡ Ok t → Kept (words ++ (first ∷ others) ∷ []) t
  by true y p q e = renamed _ (word_is first _ p) (kept_pair words others s t is fits e)
  by false true p q e = renamed _ (word_is first _ q) (kept_end words others s t is fits e)
  by false false p q e = absurd cc

-- where no pair line was read the lines are all
no_pairs_yet : (s : State) → s.pairs ≡ [] → so_far stage.Lines s ≡ all_so_far s
no_pairs_yet s none = ap (λ ws. head_words s.chained ∷ order_words s.order ∷ ws) (sym (append-nil (lines_words 0 s.lines)) ∙ ap (λ ps. lines_words 0 s.lines ++ map pair_words ps) (sym none))

kept_lines : (words : List Words) (w : Words) (s t : State) → words ≡ so_far stage.Lines s → s.pairs ≡ [] → CertificateFits s.chained (read_of s) → add_content true s w ≡ Ok t → Kept (words ++ w ∷ []) t
unfolding add_content
kept_lines words [] s t is none fits e = absurd cc
kept_lines words (first ∷ others) s t is none fits e = by (bytes_eq first (codes "line")) refl e where
  by : (x : Bool) → bytes_eq first (codes "line") ≡ x → cond (x && true) (add_line s others) (add_behind s first others) ≡ Ok t → Kept (words ++ (first ∷ others) ∷ []) t
  by true p e = subst (λ (v : List ℕ). Kept (words ++ (v ∷ others) ∷ []) t) (sym (word_is first (codes "line") p)) (kept_line words others s t is none fits e)
  by false p e = kept_behind words first others s t (is ∙ no_pairs_yet s none) fits e

kept_pairs : (words : List Words) (w : Words) (s t : State) → words ≡ all_so_far s → CertificateFits s.chained (read_of s) → add_content false s w ≡ Ok t → Kept (words ++ w ∷ []) t
unfolding add_content
kept_pairs words [] s t is fits e = absurd cc
kept_pairs words (first ∷ others) s t is fits e = by (bytes_eq first (codes "line")) e where
  by : (x : Bool) → cond (x && false) (add_line s others) (add_behind s first others) ≡ Ok t → Kept (words ++ (first ∷ others) ∷ []) t
  by true e = kept_behind words first others s t is fits e
  by false e = kept_behind words first others s t is fits e

kept_at : (st : Stage) (words : List Words) (w : Words) (s t : State) → words ≡ so_far st s → Shape st s → CertificateFits s.chained (read_of s) → add_at st s w ≡ Ok t → Kept (words ++ w ∷ []) t
kept_at stage.Head words w s t is shape fits e = kept_head words w s t is shape fits.order e
kept_at stage.Order words w s t is shape fits e = kept_order words w s t is shape e
kept_at stage.Lines words w s t is shape fits e = kept_lines words w s t is shape fits e
kept_at stage.Pairs words w s t is shape fits e = kept_pairs words w s t is fits e
kept_at stage.Ended words w s t is shape fits e = absurd cc

pub kept : (words : List Words) (w : Words) (s t : State) → Kept words s → added s w ≡ Ok t → Kept (words ++ w ∷ []) t
unfolding added
kept words w s t k e = kept_at s.stage words w s t k.spelled k.shape k.fits e

pub kept_start : Kept [] start
kept_start = record { spelled = refl; shape = (refl, refl); fits = record { order = record { few = omega arith; small = tt }; lines = tt; pairs = tt } }

-- what is spelled at the end
pub kept_all : (words : List Words) (s : State) → Kept words s → is_ended s ≡ true → words ≡ certificate_words s.chained (read_of s)
kept_all words s k e = by s.stage k.spelled e where
  by : (st : Stage) → words ≡ so_far st s → is_end st ≡ true → words ≡ certificate_words s.chained (read_of s)
  by stage.Head is e = absurd cc
  by stage.Order is e = absurd cc
  by stage.Lines is e = absurd cc
  by stage.Pairs is e = absurd cc
  by stage.Ended is e = is

-- ---- what is spelled is admitted

abbrev state_at : Stage → Bool → List ℕ → List model.Line → List model.Pair → State
state_at st ch order ls ps = record { stage = st; chained = ch; order = order; lines = ls; pairs = ps }

adds_line : (ch : Bool) (order : List ℕ) (ls : List model.Line) (l : model.Line) → LineFits (length ls) l → added (state_at stage.Lines ch order ls []) (line_words (length ls) l) ≡ Ok (state_at stage.Lines ch order (ls ++ l ∷ []) [])
unfolding added add_content add_line
adds_line ch order ls l h = rw (line_is (length ls) l h) refl

adds_lines : (ch : Bool) (order : List ℕ) (done ls : List model.Line) (n : ℕ) → n ≡ length done → LinesFit n ls → AddsAll added (state_at stage.Lines ch order done []) (lines_words n ls) (state_at stage.Lines ch order (done ++ ls) [])
adds_lines ch order done [] n e h = ap (λ ls. state_at stage.Lines ch order ls []) (append-nil done)
adds_lines ch order done (l ∷ ls) n e h =
    let more = adds_lines ch order (done ++ l ∷ []) ls (n + 1) (omega (arith, length-append done (l ∷ []))) h.1 in (
      state_at stage.Lines ch order (done ++ l ∷ []) [],
      subst (λ (k : ℕ). added (state_at stage.Lines ch order done []) (line_words k l) ≡ Ok (state_at stage.Lines ch order (done ++ l ∷ []) [])) (sym e) (adds_line ch order done l (subst (λ (k : ℕ). LineFits k l) e h.0)),
      subst (λ (all : List model.Line). AddsAll added (state_at stage.Lines ch order (done ++ l ∷ []) []) (lines_words (n + 1) ls) (state_at stage.Lines ch order all [])) (append_assoc done (l ∷ []) ls) more,
    )

-- where pair lines may stand
abbrev open_stage : Bool → Stage
open_stage true = stage.Lines
open_stage false = stage.Pairs

adds_pair : (lines : Bool) (ch : Bool) (order : List ℕ) (ls : List model.Line) (ps : List model.Pair) (p : model.Pair) → PairFits ch (length ls) p → added (state_at (open_stage lines) ch order ls ps) (pair_words p) ≡ Ok (state_at stage.Pairs ch order ls (ps ++ p ∷ []))
unfolding added add_content add_behind add_pair
adds_pair true ch order ls ps p h = rw (pair_is ch (length ls) p h) refl
adds_pair false ch order ls ps p h = rw (pair_is ch (length ls) p h) refl

adds_end : (lines : Bool) (ch : Bool) (order : List ℕ) (ls : List model.Line) (ps : List model.Pair) → added (state_at (open_stage lines) ch order ls ps) (codes "end" ∷ []) ≡ Ok (state_at stage.Ended ch order ls ps)
unfolding added add_content add_behind add_end
adds_end true ch order ls ps = refl
adds_end false ch order ls ps = refl

adds_pairs : (lines : Bool) (ch : Bool) (order : List ℕ) (ls : List model.Line) (done ps : List model.Pair) → AllByRecursion (PairFits ch (length ls)) ps → AddsAll added (state_at (open_stage lines) ch order ls done) (map pair_words ps ++ (codes "end" ∷ []) ∷ []) (state_at stage.Ended ch order ls (done ++ ps))
adds_pairs lines ch order ls done [] h = (state_at stage.Ended ch order ls done, adds_end lines ch order ls done, ap (λ ps. state_at stage.Ended ch order ls ps) (append-nil done))
adds_pairs lines ch order ls done (p ∷ ps) h = (
  state_at stage.Pairs ch order ls (done ++ p ∷ []),
  adds_pair lines ch order ls done p h.0,
  subst (λ (all : List model.Pair). AddsAll added (state_at stage.Pairs ch order ls (done ++ p ∷ [])) (map pair_words ps ++ (codes "end" ∷ []) ∷ []) (state_at stage.Ended ch order ls all)) (append_assoc done (p ∷ []) ps)
      (adds_pairs false ch order ls (done ++ p ∷ []) ps h.1),
)

adds_head : (ch : Bool) → added start (head_words ch) ≡ Ok (state_at stage.Order ch [] [] [])
unfolding added add_head head_said
adds_head true = refl
adds_head false = refl

adds_order : (ch : Bool) (order : List ℕ) → OrderFits order → added (state_at stage.Order ch [] [] []) (order_words order) ≡ Ok (state_at stage.Lines ch order [] [])
unfolding added add_order order_said
adds_order ch order h =
    let few : nat_le (length (map decimal order)) 1024 ≡ true = ap (λ n. nat_le n 1024) (length-map order decimal) ∙ le-leb (length order) 1024 h.few in
    rw (few, numbers_are order h.small) refl

-- the state at the end of a certificate's text
abbrev pub ended_of : Bool → model.Certificate → State
ended_of ch c = state_at stage.Ended ch c.order c.lines c.pairs

pub adds_certificate : (ch : Bool) (c : model.Certificate) → CertificateFits ch c → AddsAll added start (certificate_words ch c) (ended_of ch c)
adds_certificate ch c h = (
  state_at stage.Order ch [] [] [],
  adds_head ch,
  (
    state_at stage.Lines ch c.order [] [],
    adds_order ch c.order h.order,
    adds_both added (state_at stage.Lines ch c.order [] []) (state_at stage.Lines ch c.order c.lines []) (state_at stage.Ended ch c.order c.lines c.pairs) (lines_words 0 c.lines) (map pair_words c.pairs ++ (codes "end" ∷ []) ∷ [])
        (adds_lines ch c.order [] c.lines 0 refl h.lines)
        (adds_pairs true ch c.order c.lines [] c.pairs h.pairs),
  ),
)
