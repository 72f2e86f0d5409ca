-- A text that is taken in line by line, while it comes.
use Rattle.std.specs.Prelude.{◌≡◌, ℕ, ◌⊎◌, List, [], ◌∷◌, ◌++◌, Result, Ok, Err}
use Rattle.hq_text.specs.Lines.{lines_of}
use Rattle.hq_text.specs.Turns.{Turn, Ends}
use Rattle.hq_text.specs.declared.intake.ReadFault.{ReadFault}
use Rattle.hq_text.specs.declared.intake.ReadFault.TheVariants.{Reader, Text}
use Rattle.hq_text.specs.declared.intake.Progress.{Progress}
use Rattle.hq_text.specs.declared.intake.Reading.{Reading}
use Rattle.hq_text.specs.declared.intake.Reading.TheVariants.{Taking, Faulty}

-- which lines leave which value, and what is wrong with which lines
abbrev pub Said : Type 0 → Type 1
Said A = List (List ℕ) → A → Type 0

-- the text ends with a line feed
pub record EndsLine (text : List ℕ) : Type 0 where
  pub front : List ℕ
  pub is : text ≡ front ++ 10 ∷ []

-- the text is one of whole lines: of none, or the last of them ends it
abbrev pub IsWhole : List ℕ → Type 0
IsWhole text = (text ≡ []) ⊎ EndsLine text

-- the text is one of whole lines, which were taken in, and what waits
pub record Holds {L : Type 0} (Took : Said L) (p : Progress L) (text : List ℕ) : Type 0 where
  pub before : List ℕ
  pub whole : IsWhole before
  pub is : text ≡ before ++ p.waiting.items
  pub taken : Took (lines_of before) p.taker

-- this is so of the lines of the text, whatever follows it
abbrev pub Stays : (List (List ℕ) → Type 0) → List ℕ → Type 0
Stays P text = (more : List ℕ) → P (lines_of (text ++ more))

-- what was read of the text so far: its lines were taken in but for what waits, or it has a fault, whatever follows it
abbrev pub HasRead : {L F : Type 0} → Said L → Said F → Reading L F → List ℕ → Type 0
HasRead Took Refuses (Taking p) text = Holds Took p text
HasRead Took Refuses (Faulty f) text = Stays (λ lines. Refuses lines f) text

-- what took in all of these lines, or what is wrong with them
abbrev pub TakenOf : {L F : Type 0} → Said L → Said F → Result L F → List (List ℕ) → Type 0
TakenOf Took Refuses (Ok l) lines = Took lines l
TakenOf Took Refuses (Err f) lines = Refuses lines f

-- the source gave a text up to its end, and of this the fact holds
pub record OfText (S : Type 0) (T : Turn S) (turns : ℕ) (old new : S) (P : List ℕ → Type 0) : Type 0 where
  pub text : List ℕ
  pub ended : Ends S T turns old text new
  pub so : P text

-- what a fault says: the first of a text's fault, the second of a source that failed
abbrev pub FaultOf : {F : Type 0} → ReadFault F → (F → Type 0) → Type 0 → Type 0
FaultOf (Text f) P Q = P f
FaultOf Reader P Q = Q

-- What reading answers, against the value of the text: that one, unless memory ran out or the reader failed.
abbrev pub GivesUnlessRead : {A F : Type 0} → F → Result A (ReadFault F) → A → Type 0
GivesUnlessRead no_memory (Ok a) value = a ≡ value
GivesUnlessRead no_memory (Err e) value = FaultOf e (λ f. f ≡ no_memory) (Unit {0})
