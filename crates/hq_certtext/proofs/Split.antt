-- What is printed of a certificate is cut into the same words again.
use Rattle.std.proofs.Common.{ℕ, ◌+◌, Bool, true, false, cond, List, [], ◌∷◌, ◌++◌, length, Option, Some, None, refl}
use Rattle.std.specs.Prelude.{codes, map}
use Rattle.std.specs.List.{AllByRecursion}
use Rattle.std.specs.Fmt.{decimal}
use Rattle.hq_text.specs.Ahead.{IsSmall}
use Rattle.hq_text.specs.Lines.{lines_of}
use Rattle.hq_text.proofs.Printed.{Plain, PlainLine, plain_line, plain_number, lines_again}
use Rattle.hq_model.specs.Certificate as model
use Rattle.hq_model.specs.Certificate.Rule.{Bit, Queue, And, Or, Through}
use Rattle.hq_model.specs.Certificate.Fences.{ForReadWrite, ForWriteWrite, ForWriteRead, ForWriteWriteChained, ForWriteReadChained}
use Rattle.hq_certtext.specs.Grammar.{IsCited, citation_word, rule_words, line_words, lines_words, fences_words, pair_words, certificate_words, RuleFits, LineFits, LinesFit, FencesFit, PairFits, CertificateFits, CertText}
use Rattle.hq_certtext.specs.Printed.{has_chain, text_of}

-- a number that is cited is small
abbrev pub SmallCited : Option ℕ → Type 0
SmallCited None = Unit {0}
SmallCited (Some n) = IsSmall n

-- and so is one that stands below a limit
pub small_of : (limit : ℕ) (c : Option ℕ) → IsCited limit c → SmallCited c
small_of limit None h = tt
small_of limit (Some n) h = h.small

plain_cited : (c : Option ℕ) → SmallCited c → Plain (citation_word c)
plain_cited None h = refl
plain_cited (Some n) h = plain_number n h

plain_citations : (limit : ℕ) (cs : List (Option ℕ)) → AllByRecursion (IsCited limit) cs → AllByRecursion Plain (map citation_word cs)
plain_citations limit [] h = tt
plain_citations limit (c ∷ cs) h = (plain_cited c (small_of limit c h.0), plain_citations limit cs h.1)

plain_numbers : (ns : List ℕ) → AllByRecursion IsSmall ns → AllByRecursion Plain (map decimal ns)
plain_numbers [] h = tt
plain_numbers (n ∷ ns) h = (plain_number n h.0, plain_numbers ns h.1)

plain_rule : (k : ℕ) (rule : model.Rule) → RuleFits k rule → AllByRecursion Plain (rule_words rule)
plain_rule k (Bit j) h = (refl, (plain_number j h, tt))
plain_rule k Queue h = (refl, tt)
plain_rule k (And slot) h = (refl, (plain_number slot h, tt))
plain_rule k (Or branches) h = (refl, plain_citations k branches h.cited)
plain_rule k (Through a b) h = (refl, (plain_number a h.0.small, (plain_number b h.1.small, tt)))

-- the words of a line are plain, and so are those of a pair line
pub plain_line_of : (k : ℕ) (l : model.Line) → LineFits k l → PlainLine (line_words k l)
plain_line_of k l h = plain_line (codes "line") _ refl (plain_number k h.number, (plain_number l.p h.p, (plain_number l.r h.r, plain_rule k l.rule h.rule)))

plain_lines : (k : ℕ) (ls : List model.Line) → LinesFit k ls → AllByRecursion PlainLine (lines_words k ls)
plain_lines k [] h = tt
plain_lines k (l ∷ ls) h = (plain_line_of k l h.0, plain_lines (k + 1) ls h.1)

plain_fences : (ch : Bool) (count : ℕ) (fences : model.Fences) → FencesFit ch count fences → AllByRecursion Plain (fences_words fences)
plain_fences ch count (ForReadWrite l) h = (refl, (plain_number l h.small, tt))
plain_fences ch count (ForWriteWrite x a b) h = (refl, (plain_number x h.0, (plain_cited a (small_of count a h.1), (plain_number b h.2.small, tt))))
plain_fences ch count (ForWriteRead x y a b c) h = (refl, (plain_number x h.0, (plain_number y h.1, (plain_cited a (small_of count a h.2), (plain_number b h.3.small, (plain_cited c (small_of count c h.4), tt))))))
plain_fences ch count (ForWriteWriteChained x y a b c) h = (refl, (plain_number x h.1, (plain_number y h.2, (plain_cited a (small_of count a h.3), (plain_number b h.4.small, (plain_number c h.5.small, tt))))))
plain_fences ch count (ForWriteReadChained x x2 y2 y a b c d e) h =
    (refl, (plain_number x h.1, (plain_number x2 h.2, (plain_number y2 h.3, (plain_number y h.4, (plain_cited a (small_of count a h.5), (plain_cited b (small_of count b h.6), (plain_number c h.7.small, (plain_cited d (small_of count d h.8), (plain_cited e (small_of count e h.9), tt))))))))))

pub plain_pair_of : (ch : Bool) (count : ℕ) (p : model.Pair) → PairFits ch count p → PlainLine (pair_words p)
plain_pair_of ch count p h = plain_line (codes "pair") _ refl (plain_number p.p h.p, (plain_number p.r h.r, plain_fences ch count p.fences h.fences))

plain_pairs : (ch : Bool) (count : ℕ) (ps : List model.Pair) → AllByRecursion (PairFits ch count) ps → AllByRecursion PlainLine (map pair_words ps)
plain_pairs ch count [] h = tt
plain_pairs ch count (p ∷ ps) h = (plain_pair_of ch count p h.0, plain_pairs ch count ps h.1)

both_lists : (P : List (List ℕ) → Type 0) (xs ys : List (List (List ℕ))) → AllByRecursion P xs → AllByRecursion P ys → AllByRecursion P (xs ++ ys)
both_lists P [] ys h k = k
both_lists P (x ∷ xs) ys h k = (h.0, both_lists P xs ys h.1 k)

plain_version : (ch : Bool) → Plain (cond ch (codes "2") (codes "1"))
plain_version true = refl
plain_version false = refl

plain_certificate : (ch : Bool) (c : model.Certificate) → CertificateFits ch c → AllByRecursion PlainLine (certificate_words ch c)
plain_certificate ch c h = (
  plain_line (codes "hsac") _ refl (plain_version ch, tt),
  (
    plain_line (codes "order") _ refl (plain_numbers c.order h.order.small),
    both_lists PlainLine (lines_words 0 c.lines) (map pair_words c.pairs ++ (codes "end" ∷ []) ∷ []) (plain_lines 0 c.lines h.lines)
        (both_lists PlainLine (map pair_words c.pairs) ((codes "end" ∷ []) ∷ []) (plain_pairs ch (length c.lines) c.pairs h.pairs) (plain_line (codes "end") [] refl tt, tt)),
  ),
)

pub printed_is_text : (c : model.Certificate) → CertificateFits (has_chain c) c → CertText (lines_of (text_of c)) c
printed_is_text c h = record { chained = has_chain c; spelled = lines_again (certificate_words (has_chain c) c) (plain_certificate (has_chain c) c h); fits = h }
