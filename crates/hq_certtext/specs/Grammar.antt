-- The text of a certificate: what its lines spell.
use Rattle.std.specs.Prelude.{◌≡◌, ℕ, ◌+◌, ◌<◌, ◌≤◌, Bool, IsTrue, List, [], ◌∷◌, ◌++◌, length, map, codes}
use Rattle.std.specs.Prelude.{Option, Some, None, if◌then◌else◌}
use Rattle.std.specs.List.{AllByRecursion}
use Rattle.std.specs.Fmt.{decimal}
use Rattle.hq_text.specs.Ahead.{IsSmall}
use Rattle.hq_text.specs.Lines.{words_of}
use Rattle.hq_model.specs.declared.limits.TheConstants.{PACKETS}
use Rattle.hq_model.specs.Certificate as model
use Rattle.hq_model.specs.Certificate.Rule.{Bit, Queue, And, Or, Through}
use Rattle.hq_model.specs.Certificate.Fences.{ForReadWrite, ForWriteWrite, ForWriteRead, ForWriteWriteChained}
use Rattle.hq_model.specs.Certificate.Fences.{ForWriteReadChained}

-- ---- the words of each line

-- `=`, or the number of the line that is cited
abbrev pub citation_word : Option ℕ → List ℕ
citation_word None = codes "="
citation_word (Some k) = decimal k

-- `bit J`, `queue`, `and S`, `or C ..`, `through A B`
abbrev pub rule_words : model.Rule → List (List ℕ)
rule_words (Bit j) = codes "bit" ∷ decimal j ∷ []
rule_words Queue = codes "queue" ∷ []
rule_words (And slot) = codes "and" ∷ decimal slot ∷ []
rule_words (Or branches) = codes "or" ∷ map citation_word branches
rule_words (Through first second) = codes "through" ∷ decimal first ∷ decimal second ∷ []

-- `line K P R` and the rule
abbrev pub line_words : ℕ → model.Line → List (List ℕ)
line_words k line = codes "line" ∷ decimal k ∷ decimal line.p ∷ decimal line.r ∷ rule_words line.rule

-- the lines, the first of which has the number k
abbrev pub lines_words : ℕ → List model.Line → List (List (List ℕ))
lines_words k [] = []
lines_words k (line ∷ lines) = line_words k line ∷ lines_words (k + 1) lines

-- `rw L`, `ww X A B`, `wr X Y A B C`, `wwc X X2 A B C`, `wrc X X2 Y2 Y A B C D E`
abbrev pub fences_words : model.Fences → List (List ℕ)
fences_words (ForReadWrite line) = codes "rw" ∷ decimal line ∷ []
fences_words (ForWriteWrite x from on) = codes "ww" ∷ decimal x ∷ citation_word from ∷ decimal on ∷ []
fences_words (ForWriteRead x y from between to) = codes "wr" ∷ decimal x ∷ decimal y ∷ citation_word from
    ∷ decimal between ∷ citation_word to ∷ []
fences_words (ForWriteWriteChained x x2 from link on) = codes "wwc" ∷ decimal x ∷ decimal x2 ∷ citation_word from
    ∷ decimal link ∷ decimal on ∷ []
fences_words (ForWriteReadChained x x2 y2 y from link between link2 to) =
    codes "wrc" ∷ decimal x ∷ decimal x2 ∷ decimal y2 ∷ decimal y ∷ citation_word from ∷ citation_word link
    ∷ decimal between ∷ citation_word link2 ∷ citation_word to ∷ []

-- `pair P R` and the fences
abbrev pub pair_words : model.Pair → List (List ℕ)
pair_words pair = codes "pair" ∷ decimal pair.p ∷ decimal pair.r ∷ fences_words pair.fences

-- `hsac 1`, or `hsac 2` where chained pair lines may stand
abbrev pub head_words : Bool → List (List ℕ)
head_words chained = codes "hsac" ∷ (if chained then codes "2" else codes "1") ∷ []

-- `order N N ..`
abbrev pub order_words : List ℕ → List (List ℕ)
order_words order = codes "order" ∷ map decimal order

-- the head, the order, the lines by number from 0, the pair lines, and `end`
abbrev pub certificate_words : Bool → model.Certificate → List (List (List ℕ))
certificate_words chained c =
    head_words chained ∷ order_words c.order ∷
    (lines_words 0 c.lines ++ (map pair_words c.pairs ++ (codes "end" ∷ []) ∷ []))

-- ---- which values have a text

-- a line's number that is cited: below the limit
pub record IsBelow (limit n : ℕ) : Type 0 where
  pub small : IsSmall n
  pub below : n < limit

-- `=`, or a line's number below the limit
abbrev pub IsCited : ℕ → Option ℕ → Type 0
IsCited limit None = Unit {0}
IsCited limit (Some n) = IsBelow limit n

-- 1 to 5 citations
pub record BranchesFit (limit : ℕ) (branches : List (Option ℕ)) : Type 0 where
  pub some : 1 ≤ length branches
  pub few : length branches ≤ 5
  pub cited : AllByRecursion (IsCited limit) branches

-- what the rule of line k cites stands before it
abbrev pub RuleFits : ℕ → model.Rule → Type 0
RuleFits k (Bit j) = IsSmall j
RuleFits k Queue = Unit {0}
RuleFits k (And slot) = IsSmall slot
RuleFits k (Or branches) = BranchesFit k branches
RuleFits k (Through first second) = IsBelow k first × IsBelow k second

-- the line's numbers are small, and its rule cites below it
pub record LineFits (k : ℕ) (line : model.Line) : Type 0 where
  pub number : IsSmall k
  pub p : IsSmall line.p
  pub r : IsSmall line.r
  pub rule : RuleFits k line.rule

-- the same of each line, the first of which has the number k
abbrev pub LinesFit : ℕ → List model.Line → Type 0
LinesFit k [] = Unit {0}
LinesFit k (line ∷ lines) = LineFits k line × LinesFit (k + 1) lines

-- what the fences cite are lines that are there, and chained ones stand only where they may
abbrev pub FencesFit : Bool → ℕ → model.Fences → Type 0
FencesFit chained count (ForReadWrite line) = IsBelow count line
FencesFit chained count (ForWriteWrite x from on) = IsSmall x × IsCited count from × IsBelow count on
FencesFit chained count (ForWriteRead x y from between to) = IsSmall x × IsSmall y × IsCited count from
    × IsBelow count between × IsCited count to
FencesFit chained count (ForWriteWriteChained x x2 from link on) = IsTrue chained × IsSmall x × IsSmall x2
    × IsCited count from × IsBelow count link × IsBelow count on
FencesFit chained count (ForWriteReadChained x x2 y2 y from link between link2 to) =
    IsTrue chained × IsSmall x × IsSmall x2 × IsSmall y2 × IsSmall y × IsCited count from × IsCited count link
    × IsBelow count between × IsCited count link2 × IsCited count to

-- the pair line's numbers are small, and its fences cite lines that are there
pub record PairFits (chained : Bool) (count : ℕ) (pair : model.Pair) : Type 0 where
  pub p : IsSmall pair.p
  pub r : IsSmall pair.r
  pub fences : FencesFit chained count pair.fences

-- at most 1,024 numbers
pub record OrderFits (order : List ℕ) : Type 0 where
  pub few : length order ≤ PACKETS
  pub small : AllByRecursion IsSmall order

-- the certificate has a text: its order, its lines from 0 on and its pair lines fit
pub record CertificateFits (chained : Bool) (c : model.Certificate) : Type 0 where
  pub order : OrderFits c.order
  pub lines : LinesFit 0 c.lines
  pub pairs : AllByRecursion (PairFits chained (length c.lines)) c.pairs

-- ---- the text

-- The lines are the text of the certificate.
pub record CertText (lines : List (List ℕ)) (c : model.Certificate) : Type 0 where
  pub chained : Bool
  pub spelled : map words_of lines ≡ certificate_words chained c
  pub fits : CertificateFits chained c
