-- What a text is found to begin with, in one pass over its bytes.
use Rattle.std.specs.Prelude.{◌≡◌, ℕ, ◌+◌, ◌<◌, ◌≤◌, List, ◌∷◌, ◌++◌, length, take, Bool, Option}
use Rattle.std.specs.Fmt.{decimal}
use Rattle.hq_text.specs.LineByLine.{AdmitsAll}
use Rattle.hq_text.specs.Lines.{lines_of}
use Rattle.hq_text.specs.Printed.{line_text}
use Rattle.hq_model.specs.Certificate as model
use Rattle.hq_certtext.specs.Grammar.{IsBelow, IsCited, citation_word, rule_words, line_words, fences_words}
use Rattle.hq_certtext.specs.Grammar.{pair_words, RuleFits, LineFits, FencesFit, PairFits}
use Rattle.hq_certtext.specs.Rows.{three_digits}
use Rattle.hq_certread.specs.TextFaults.{State, added}

-- the text begins with the three digits of n
pub record ThreeAhead (text : List ℕ) (n : ℕ) : Type 0 where
  pub are : take 3 text ≡ three_digits n
  pub small : n < 1000

-- the text is the number n, which is below the limit, a byte that ends it, and the rest
pub record BelowAhead (limit : ℕ) (text : List ℕ) (n stop : ℕ) (rest : List ℕ) : Type 0 where
  pub is : text ≡ decimal n ++ stop ∷ rest
  pub fits : IsBelow limit n

-- the same with a citation of a line below the limit
pub record CitationAhead (limit : ℕ) (text : List ℕ) (c : Option ℕ) (stop : ℕ) (rest : List ℕ) : Type 0 where
  pub is : text ≡ citation_word c ++ stop ∷ rest
  pub fits : IsCited limit c

-- the text is a rule of line k, a line feed, and the rest
pub record RuleAhead (k : ℕ) (text : List ℕ) (rule : model.Rule) (rest : List ℕ) : Type 0 where
  pub is : text ≡ line_text (rule_words rule) ++ rest
  pub fits : RuleFits k rule

-- the text is line k and the rest
pub record LineAhead (k : ℕ) (text : List ℕ) (line : model.Line) (rest : List ℕ) : Type 0 where
  pub is : text ≡ line_text (line_words k line) ++ rest
  pub fits : LineFits k line

-- the text is the number and the packets of line k, so that it is line k where a rule stands behind them
pub record PacketsAhead (k : ℕ) (text : List ℕ) (p r : ℕ) (rest : List ℕ) : Type 0 where
  pub leads : (rule : model.Rule) (end : List ℕ) → RuleAhead k rest rule end
      → LineAhead k text (record { p = p; r = r; rule = rule }) end

-- the text is the fences of a pair line behind so many lines, a line feed, and the rest
pub record FencesAhead (count : ℕ) (text : List ℕ) (fences : model.Fences) (rest : List ℕ) : Type 0 where
  pub is : text ≡ line_text (fences_words fences) ++ rest
  pub fits : (chained : Bool) → FencesFit chained count fences

-- the text is a pair line behind so many lines, and the rest
pub record PairAhead (count : ℕ) (text : List ℕ) (pair : model.Pair) (rest : List ℕ) : Type 0 where
  pub is : text ≡ line_text (pair_words pair) ++ rest
  pub fits : (chained : Bool) → PairFits chained count pair

-- So many lines of the text were taken in, and the rest is left.
pub record TakenFrom (text rest : List ℕ) (count : ℕ) (old new : State) : Type 0 where
  pub front : List (List ℕ)
  pub whole : lines_of text ≡ front ++ lines_of rest
  pub counted : length front ≡ count
  pub admitted : AdmitsAll added old front new
  pub short : count + length rest ≤ length text
