-- What each reason of a fault means, by the forms that lines may have.
use Rattle.std.specs.Prelude.{◌≡◌, ℕ, ◌≤◌, ◌^◌, ◌↔◌, Bool, true, List, [], ◌∷◌, length, codes}
use Rattle.hq_text.specs.Ahead.{IsSmall}
use Rattle.hq_text.specs.LineByLine.{Refuses}
use Rattle.hq_text.specs.Lines.{words_of}
use Rattle.hq_model.specs.declared.limits.TheConstants.{PACKETS}
use Rattle.hq_model.specs.Certificate as model
use Rattle.hq_certread.specs.declared.draft.Stage.{Stage}
use Rattle.hq_certread.specs.declared.draft.Stage.TheVariants as stage
use Rattle.hq_certread.specs.declared.fault.CertReason.TheVariants as reason
use Rattle.hq_certtext.specs.Grammar.{head_words, order_words, line_words, pair_words, RuleFits, PairFits, OrderFits}
use Rattle.hq_certread.specs.TextFaults.{State, added}

-- a rule of this name has so many words behind its name
pub data RuleForm : List ℕ → ℕ → Type 0 where
  bit : RuleForm (codes "bit") 1
  queue : RuleForm (codes "queue") 0
  and : RuleForm (codes "and") 1
  or : (count : ℕ) → 1 ≤ count → count ≤ 5 → RuleForm (codes "or") count
  through : RuleForm (codes "through") 2

-- a kind of this name has so many words behind its name; the chained ones may not stand everywhere
pub data KindForm : Bool → List ℕ → ℕ → Type 0 where
  rw : (chained : Bool) → KindForm chained (codes "rw") 1
  ww : (chained : Bool) → KindForm chained (codes "ww") 3
  wr : (chained : Bool) → KindForm chained (codes "wr") 5
  wwc : KindForm true (codes "wwc") 5
  wrc : KindForm true (codes "wrc") 9

-- pair lines and the end may stand behind the order
pub data MayPair : Stage → Type 0 where
  behind_lines : MayPair stage.Lines
  behind_pairs : MayPair stage.Pairs

-- The words have the form of a line that may stand here, whatever stands in the places of numbers and citations.
pub data HasForm : Stage → Bool → List (List ℕ) → Type 0 where
  head : (chained here : Bool) → HasForm stage.Head here (head_words chained)
  order : (here : Bool) (numbers : List (List ℕ)) → length numbers ≤ PACKETS
      → HasForm stage.Order here (codes "order" ∷ numbers)
  line : (here : Bool) (k p r name : List ℕ) (operands : List (List ℕ)) → RuleForm name (length operands)
      → HasForm stage.Lines here (codes "line" ∷ k ∷ p ∷ r ∷ name ∷ operands)
  pair : (place : Stage) (here : Bool) (p r name : List ℕ) (operands : List (List ℕ)) → MayPair place
      → KindForm here name (length operands) → HasForm place here (codes "pair" ∷ p ∷ r ∷ name ∷ operands)
  ends : (place : Stage) (here : Bool) → MayPair place → HasForm place here (codes "end" ∷ [])

-- The words spell line `count`, and each number and each line cited has 32 bits: whether the lines cited stand
-- before it is left open.
pub record SpellsLine (count : ℕ) (words : List (List ℕ)) (l : model.Line) : Type 0 where
  pub spelled : words ≡ line_words count l
  pub number : IsSmall count
  pub p : IsSmall l.p
  pub r : IsSmall l.r
  pub rule : RuleFits (2 ^ 32) l.rule

-- The words spell the pair line, and each number and each line cited has 32 bits.
pub record SpellsPair (chained : Bool) (words : List (List ℕ)) (p : model.Pair) : Type 0 where
  pub spelled : words ≡ pair_words p
  pub fits : PairFits chained (2 ^ 32) p

-- The words spell a line that may stand here, and each number and each line cited has 32 bits: whether the lines
-- cited are there is left open.
pub data Spells (s : State) (words : List (List ℕ)) : Type 0 where
  a_head : (chained : Bool) → s.stage ≡ stage.Head → words ≡ head_words chained → Spells s words
  an_order : (order : List ℕ) → s.stage ≡ stage.Order → words ≡ order_words order → OrderFits order → Spells s words
  a_line : (l : model.Line) → s.stage ≡ stage.Lines → SpellsLine (length s.lines) words l → Spells s words
  a_pair : (p : model.Pair) → MayPair s.stage → SpellsPair s.chained words p → Spells s words
  an_end : MayPair s.stage → words ≡ codes "end" ∷ [] → Spells s words

-- The words have a form that may stand here, but spell no such line: what stands in the place of a number or a
-- citation isn't one that may stand there.
pub record Misspells (s : State) (words : List (List ℕ)) : Type 0 where
  pub form : HasForm s.stage s.chained words
  pub unspelled : ¬ Spells s words

-- The words spell a line that may stand here, but it cites a line that isn't there.
pub data CitesWrongly (s : State) (words : List (List ℕ)) : Type 0 where
  wrong_line : (l : model.Line) → s.stage ≡ stage.Lines → SpellsLine (length s.lines) words l
      → ¬ RuleFits (length s.lines) l.rule → CitesWrongly s words
  wrong_pair : (p : model.Pair) → MayPair s.stage → SpellsPair s.chained words p
      → ¬ PairFits s.chained (length s.lines) p → CitesWrongly s words

-- A line is refused for its words exactly where they have no form that may stand there.
abbrev pub WordMeans : Type 0
WordMeans = (s : State) (text : List ℕ) → Refuses added s text reason.Word
    ↔ (¬ HasForm s.stage s.chained (words_of text))

-- A line is refused for its numbers exactly where its words have a form, but spell no line of it.
abbrev pub NumberMeans : Type 0
NumberMeans = (s : State) (text : List ℕ) → Refuses added s text reason.Number ↔ Misspells s (words_of text)

-- A line is refused for what it cites exactly where it is right but for that.
abbrev pub CitationMeans : Type 0
CitationMeans = (s : State) (text : List ℕ) → Refuses added s text reason.Citation ↔ CitesWrongly s (words_of text)
