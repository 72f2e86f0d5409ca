-- What a reader answers, turn by turn.
use Rattle.std.specs.Prelude.{◌≡◌, ℕ, ◌+◌, ◌<◌, List, [], ◌++◌, take, Option, Some, None}
use Rattle.std.specs.Io.KnownBytes.{Consumes, IsAtEnd, Keeps}
use Rattle.hq_text.specs.declared.take.Came.{Came}
use Rattle.hq_text.specs.declared.take.Came.TheVariants as came

-- what one turn may do: the reader before it, the count of bytes or a failure, the buffer and the reader after it
abbrev pub Turn : Type 0 → Type 1
Turn S = S → Option ℕ → List ℕ → S → Type 0

-- n turns, one after another, each of which gave a byte or more: the reader before and after them, and all their bytes
pub data Gives (S : Type 0) (T : Turn S) : S → ℕ → List ℕ → S → Type 0 where
  start : (s : S) → Gives S T s 0 [] s
  more : (s mid new : S) (n count : ℕ) (text buffer : List ℕ) → Gives S T s n text mid → 0 < count
      → T mid (Some count) buffer new → Gives S T s (n + 1) (text ++ take count buffer) new

-- within so many turns the reader gave this text and then its end
pub record Ends (S : Type 0) (T : Turn S) (turns : ℕ) (old : S) (text : List ℕ) (new : S) : Type 0 where
  pub count : ℕ
  pub last : S
  pub buffer : List ℕ
  pub given : Gives S T old count text last
  pub within : count < turns
  pub ended : T last (Some 0) buffer new

-- within so many turns the reader failed
pub record Fails (S : Type 0) (T : Turn S) (turns : ℕ) (old new : S) : Type 0 where
  pub count : ℕ
  pub text : List ℕ
  pub last : S
  pub buffer : List ℕ
  pub given : Gives S T old count text last
  pub within : count < turns
  pub failed : T last None buffer new

-- so many turns passed, and none was the end
pub record Passes (S : Type 0) (T : Turn S) (turns : ℕ) (old new : S) : Type 0 where
  pub text : List ℕ
  pub given : Gives S T old turns text new

-- What so many turns came to: each gave a byte or more, and this is their text; or the reader came to its end behind
-- this text; or it failed.
abbrev pub ComesTo : (S : Type 0) → Turn S → ℕ → S → List ℕ → S → Came → Type 0
ComesTo S T turns old text new came.More = Gives S T old turns text new
ComesTo S T turns old text new came.End = Ends S T turns old text new
ComesTo S T turns old text new came.Failed = Fails S T turns old new

-- what std says of one turn: the bytes that a reader has left begin with those that it gave, and a failure takes none
abbrev pub ReadTurn : {S : Type 0} → (S → Option (List ℕ)) → Turn S
ReadTurn left old None buffer new = Keeps (left old) (left new)
ReadTurn left old (Some n) buffer new = Consumes (left old) (left new) (take n buffer) × (n ≡ 0 → IsAtEnd (left new))
