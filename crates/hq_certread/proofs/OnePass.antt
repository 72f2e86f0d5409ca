-- What one pass over a text finds, and that it is taken in.
use Rattle.std.proofs.Common.{◌≡◌, ℕ, ◌+◌, ◌*◌, ◌/◌, ◌%◌, ◌<◌, ◌≤◌, List, [], ◌∷◌, ◌++◌, length, get_or, take, drop, Option, Some, None, refl, sym, ap, subst, ◌∙◌, arith, append_assoc, take_all, take-add}
use Rattle.std.specs.Prelude.{MatchOption, IfSome, codes, map}
use Rattle.std.specs.Fmt.{decimal}
use Rattle.std.specs.Bool.{Decides}
use Rattle.std.proofs.lemmas.Bool.{eqb-true, eq-eqb}
use Rattle.std.proofs.lemmas.List.{take-append-drop, drop_more, get_or-drop}
use Rattle.std.proofs.Common.{eqb}
use Rattle.hq_model.specs.Certificate as model
use Rattle.hq_model.specs.Certificate.Rule.{Bit, Queue, And, Or, Through}
use Rattle.hq_model.specs.Certificate.Fences.{ForReadWrite, ForWriteWrite, ForWriteRead, ForWriteWriteChained, ForWriteReadChained}
use Rattle.hq_certtext.specs.Grammar.{citation_word, rule_words, fences_words}
use Rattle.hq_text.specs.Ahead.{IsSmall, DigitsSoFar, NumberAhead}
use Rattle.hq_text.specs.Printed.{spaced, line_text}
use Rattle.hq_text.proofs.DigitsRead.{eight}
use Rattle.hq_certread.specs.OnePass.{ThreeAhead, BelowAhead, CitationAhead, RuleAhead, LineAhead, PacketsAhead, FencesAhead, PairAhead}
use Rattle.hq_certtext.proofs.Placed.{three_are, thousands}

-- ---- digits

-- three digits, of which the first isn't `0`
pub three_digits_so_far : (text : List ℕ) (n : ℕ) → ThreeAhead text n → 100 ≤ n → DigitsSoFar text n 3
three_digits_so_far text n three lo = record { are = three.are ∙ ap (drop 1) (three_are n lo three.small); some = omega arith; few = three.small }

-- three digits more
pub six_digits : (text : List ℕ) (first second : ℕ) → DigitsSoFar text first 3 → ThreeAhead (drop 3 text) second → DigitsSoFar text (first * 1000 + second) 6
six_digits text first second so three =
    let some = so.some in
    let few = so.few in
    let small = three.small in
    let front : (first * 1000 + second) / 1000 ≡ first = omega arith in
    let last : (first * 1000 + second) % 1000 ≡ second = omega arith in
    record {
      are = take-add 3 3 text ∙ ap (λ t. t ++ take 3 (drop 3 text)) so.are ∙ ap (λ t. decimal first ++ t) three.are ∙ sym (rw (thousands (first * 1000 + second) (omega arith) (omega arith), front, last) refl);
      some = omega arith;
      few = omega arith;
    }

-- the number of the digits so far, and the byte that ends it
pub ended_at : (text rest : List ℕ) (n count stop : ℕ) → DigitsSoFar text n count → count < length text → count ≤ 8 → get_or text count 0 ≡ stop → rest ≡ drop (count + 1) text → NumberAhead text n stop rest
ended_at text rest n count stop so lt le is behind =
    let low = eight count n le so.few in
    record {
      is = sym (take-append-drop count text) ∙ ap (λ t. t ++ drop count text) so.are ∙ ap (λ r. decimal n ++ r) (drop_more text count 0 lt) ∙ ap (λ b. decimal n ++ b ∷ drop (count + 1) text) is
          ∙ ap (λ r. decimal n ++ stop ∷ r) (sym behind);
      small = omega arith;
    }

pub three_ended : (text rest : List ℕ) (n stop : ℕ) → ThreeAhead text n → 100 ≤ n → 10 ≤ length text → get_or text 3 0 ≡ stop → rest ≡ drop 4 text → NumberAhead text n stop rest
three_ended text rest n stop three lo long is behind = ended_at text rest n 3 stop (three_digits_so_far text n three lo) (omega arith) (omega arith) is behind

pub six_ended : (text rest : List ℕ) (first second stop : ℕ) → DigitsSoFar text first 3 → ThreeAhead (drop 3 text) second → 10 ≤ length text → get_or (drop 3 text) 3 0 ≡ stop → rest ≡ drop 7 text → NumberAhead text (first * 1000 + second) stop rest
six_ended text rest first second stop so three long is behind =
    ended_at text rest (first * 1000 + second) 6 stop (six_digits text first second so three) (omega arith) (omega arith) (sym (get_or-drop 3 text 3 0) ∙ is) behind

-- ---- words of a line

last_word : (text w rest : List ℕ) → text ≡ w ++ 10 ∷ rest → text ≡ line_text (w ∷ []) ++ rest
last_word text w rest e = e ∙ sym (append_assoc w (10 ∷ []) rest)

-- a word and its space in front
word_more : (text w t rest v : List ℕ) (ws : List (List ℕ)) → text ≡ w ++ 32 ∷ t → t ≡ line_text (v ∷ ws) ++ rest → text ≡ line_text (w ∷ v ∷ ws) ++ rest
word_more text w t rest v ws e f =
    e ∙ ap (λ r. w ++ 32 ∷ r) f ∙ ap (λ r. w ++ 32 ∷ (r ++ rest)) (sym (append_assoc v (spaced ws) (10 ∷ []))) ∙ sym (append_assoc w (32 ∷ ((v ++ spaced ws) ++ 10 ∷ [])) rest)

pub bit_ahead : (k : ℕ) (text t rest : List ℕ) (j : ℕ) → text ≡ codes "bit " ++ t → NumberAhead t j 10 rest → RuleAhead k text (Bit j) rest
bit_ahead k text t rest j e a = record { is = word_more text (codes "bit") t rest (decimal j) [] e (last_word t (decimal j) rest a.is); fits = a.small }

pub and_ahead : (k : ℕ) (text t rest : List ℕ) (j : ℕ) → text ≡ codes "and " ++ t → NumberAhead t j 10 rest → RuleAhead k text (And j) rest
and_ahead k text t rest j e a = record { is = word_more text (codes "and") t rest (decimal j) [] e (last_word t (decimal j) rest a.is); fits = a.small }

pub queue_ahead : (k : ℕ) (text rest : List ℕ) → text ≡ codes "queue\n" ++ rest → RuleAhead k text Queue rest
queue_ahead k text rest e = record { is = e; fits = tt }

pub through_ahead : (k : ℕ) (text t u rest : List ℕ) (m n : ℕ) → text ≡ codes "through " ++ t → BelowAhead k t m 32 u → BelowAhead k u n 10 rest → RuleAhead k text (Through m n) rest
through_ahead k text t u rest m n e a b =
    record {
      is = word_more text (codes "through") t rest (decimal m) (decimal n ∷ []) e (word_more t (decimal m) u rest (decimal n) [] a.is (last_word u (decimal n) rest b.is));
      fits = (a.fits, b.fits);
    }

-- the words of a rule, a kind: none is empty
rule_more : (text w t rest : List ℕ) (rule : model.Rule) → text ≡ w ++ 32 ∷ t → t ≡ line_text (rule_words rule) ++ rest → text ≡ line_text (w ∷ rule_words rule) ++ rest
rule_more text w t rest (Bit j) e f = word_more text w t rest (codes "bit") (decimal j ∷ []) e f
rule_more text w t rest Queue e f = word_more text w t rest (codes "queue") [] e f
rule_more text w t rest (And slot) e f = word_more text w t rest (codes "and") (decimal slot ∷ []) e f
rule_more text w t rest (Or branches) e f = word_more text w t rest (codes "or") (map citation_word branches) e f
rule_more text w t rest (Through first second) e f = word_more text w t rest (codes "through") (decimal first ∷ decimal second ∷ []) e f

line_ahead : (k : ℕ) (text t u v w rest : List ℕ) (own p r : ℕ) (rule : model.Rule) → text ≡ codes "line " ++ t → NumberAhead t own 32 u → own ≡ k → NumberAhead u p 32 v → NumberAhead v r 32 w → RuleAhead k w rule rest
    → LineAhead k text (record { p = p; r = r; rule = rule }) rest
line_ahead k text t u v w rest own p r rule e a same b c d =
    record {
      is = word_more text (codes "line") t rest (decimal k) (decimal p ∷ decimal r ∷ rule_words rule) e
          (word_more t (decimal k) u rest (decimal p) (decimal r ∷ rule_words rule) (a.is ∙ ap (λ n. decimal n ++ 32 ∷ u) same)
          (word_more u (decimal p) v rest (decimal r) (rule_words rule) b.is (rule_more v (decimal r) w rest rule c.is d.is)));
      fits = record { number = subst (λ (n : ℕ). IsSmall n) same a.small; p = b.small; r = c.small; rule = d.fits };
    }

pub packets_ahead : (k : ℕ) (text t u v w : List ℕ) (own p r : ℕ) → text ≡ codes "line " ++ t → NumberAhead t own 32 u → own ≡ k → NumberAhead u p 32 v → NumberAhead v r 32 w → PacketsAhead k text p r w
packets_ahead k text t u v w own p r e a same b c = record { leads = λ rule rest d. line_ahead k text t u v w rest own p r rule e a same b c d }

-- ---- pair lines

pub read_write_ahead : (count : ℕ) (text t rest : List ℕ) (l : ℕ) → text ≡ codes "rw " ++ t → BelowAhead count t l 10 rest → FencesAhead count text (ForReadWrite l) rest
read_write_ahead count text t rest l e a = record { is = word_more text (codes "rw") t rest (decimal l) [] e (last_word t (decimal l) rest a.is); fits = λ chained. a.fits }

pub write_write_ahead : (count : ℕ) (text t u v rest : List ℕ) (x : ℕ) (from : Option ℕ) (on : ℕ) → text ≡ codes "ww " ++ t → NumberAhead t x 32 u → CitationAhead count u from 32 v → BelowAhead count v on 10 rest
    → FencesAhead count text (ForWriteWrite x from on) rest
write_write_ahead count text t u v rest x from on e a b c =
    record {
      is = word_more text (codes "ww") t rest (decimal x) (citation_word from ∷ decimal on ∷ []) e
          (word_more t (decimal x) u rest (citation_word from) (decimal on ∷ []) a.is (word_more u (citation_word from) v rest (decimal on) [] b.is (last_word v (decimal on) rest c.is)));
      fits = λ chained. (a.small, b.fits, c.fits);
    }

pub write_read_ahead : (count : ℕ) (text s t u v w rest : List ℕ) (x y : ℕ) (from : Option ℕ) (between : ℕ) (to : Option ℕ) → text ≡ codes "wr " ++ s
    → NumberAhead s x 32 t → NumberAhead t y 32 u → CitationAhead count u from 32 v → BelowAhead count v between 32 w → CitationAhead count w to 10 rest → FencesAhead count text (ForWriteRead x y from between to) rest
write_read_ahead count text s t u v w rest x y from between to e a b c d f =
    record {
      is = word_more text (codes "wr") s rest (decimal x) (decimal y ∷ citation_word from ∷ decimal between ∷ citation_word to ∷ []) e
          (word_more s (decimal x) t rest (decimal y) (citation_word from ∷ decimal between ∷ citation_word to ∷ []) a.is
          (word_more t (decimal y) u rest (citation_word from) (decimal between ∷ citation_word to ∷ []) b.is
          (word_more u (citation_word from) v rest (decimal between) (citation_word to ∷ []) c.is
          (word_more v (decimal between) w rest (citation_word to) [] d.is (last_word w (citation_word to) rest f.is)))));
      fits = λ chained. (a.small, b.small, c.fits, d.fits, f.fits);
    }

fences_more : (text w t rest : List ℕ) (f : model.Fences) → text ≡ w ++ 32 ∷ t → t ≡ line_text (fences_words f) ++ rest → text ≡ line_text (w ∷ fences_words f) ++ rest
fences_more text w t rest (ForReadWrite l) e f = word_more text w t rest (codes "rw") (decimal l ∷ []) e f
fences_more text w t rest (ForWriteWrite x from on) e f = word_more text w t rest (codes "ww") (decimal x ∷ citation_word from ∷ decimal on ∷ []) e f
fences_more text w t rest (ForWriteRead x y from between to) e f = word_more text w t rest (codes "wr") (decimal x ∷ decimal y ∷ citation_word from ∷ decimal between ∷ citation_word to ∷ []) e f
fences_more text w t rest (ForWriteWriteChained x x2 from link on) e f = word_more text w t rest (codes "wwc") (decimal x ∷ decimal x2 ∷ citation_word from ∷ decimal link ∷ decimal on ∷ []) e f
fences_more text w t rest (ForWriteReadChained x x2 y2 y from link between link2 to) e f =
    word_more text w t rest (codes "wrc") (decimal x ∷ decimal x2 ∷ decimal y2 ∷ decimal y ∷ citation_word from ∷ citation_word link ∷ decimal between ∷ citation_word link2 ∷ citation_word to ∷ []) e f

pub pair_ahead : (count : ℕ) (text t u v rest : List ℕ) (p r : ℕ) (fences : model.Fences) → text ≡ codes "pair " ++ t → NumberAhead t p 32 u → NumberAhead u r 32 v → FencesAhead count v fences rest
    → PairAhead count text (record { p = p; r = r; fences = fences }) rest
pair_ahead count text t u v rest p r fences e a b c =
    record {
      is = word_more text (codes "pair") t rest (decimal p) (decimal r ∷ fences_words fences) e
          (word_more t (decimal p) u rest (decimal r) (fences_words fences) a.is (fences_more u (decimal r) v rest fences b.is c.is));
      fits = λ chained. record { p = a.small; r = b.small; fences = c.fits chained };
    }

-- ---- prefixes

four_first : (text : List ℕ) → 4 ≤ length text → take 4 text ≡ get_or text 0 0 ∷ get_or text 1 0 ∷ get_or text 2 0 ∷ get_or text 3 0 ∷ []
four_first [] long = absurd (omega arith)
four_first (a ∷ []) long = absurd (omega arith)
four_first (a ∷ b ∷ []) long = absurd (omega arith)
four_first (a ∷ b ∷ c ∷ []) long = absurd (omega arith)
four_first (a ∷ b ∷ c ∷ d ∷ more) long = refl

-- four bytes that are the same number, and what stands behind them
pub behind_both : (text behind four others rest : List ℕ) → 4 ≤ length text → length four ≡ 4
    → get_or text 0 0 ∷ get_or text 1 0 ∷ get_or text 2 0 ∷ get_or text 3 0 ∷ [] ≡ get_or four 0 0 ∷ get_or four 1 0 ∷ get_or four 2 0 ∷ get_or four 3 0 ∷ []
    → behind ≡ drop 4 text → behind ≡ others ++ rest → text ≡ four ++ (others ++ rest)
behind_both text behind four others rest long size same is e =
    sym (take-append-drop 4 text) ∙ ap (λ t. t ++ drop 4 text) (four_first text long ∙ same ∙ sym (four_first four (omega arith)) ∙ take_all 4 four (omega arith)) ∙ ap (λ t. four ++ t) (sym is ∙ e)

pub from_match : {X : Type 0} (P : X → Type 0) (N : Type 0) (r : Option X) → MatchOption r N P → IfSome r P
from_match P N None m = tt
from_match P N (Some x) m = m

pub nat_tells : (a b : ℕ) → Decides (eqb a b) (a ≡ b)
nat_tells a b = (eqb-true a b, eq-eqb a b)
