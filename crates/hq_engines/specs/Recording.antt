-- What is written to two writers: a run's timeline, where it is asked for, and the answer.
use Rattle.std.specs.Prelude.{◌≡◌, ◌⊎◌, ℕ, List, Option, Some, None}
use Rattle.std.specs.Io.KnownBytes.{Appends}
use Rattle.hq_status.specs.declared.status.Status.{Status}
use Rattle.hq_status.specs.declared.status.Status.TheVariants.{File}

-- what a writer holds, where there is one
abbrev pub contents_in : {T : Type 0} → (T → Option (List ℕ)) → Option T → Option (List ℕ)
contents_in contents None = None
contents_in contents (Some writer) = contents writer

-- Both texts were written behind what the writers held, and the status answered; or a writer failed.
abbrev pub BothSaid : Option (List ℕ) → Option (List ℕ) → List ℕ → Option (List ℕ) → Option (List ℕ) → List ℕ → Status
    → Status → Type 0
BothSaid begun recorded events old new text status answered = ((answered ≡ status) × Appends begun recorded events
    × Appends old new text) ⊎ (answered ≡ File)

-- What the report asks for was written, and its status answered; or a writer failed.
abbrev pub Recorded : (List ℕ → List ℕ → Status → Type 0) → Option (List ℕ) → Option (List ℕ) → Option (List ℕ)
    → Option (List ℕ) → Status → Type 0
Recorded Report begun recorded old new answered =
    (events : List ℕ) × (text : List ℕ) × (status : Status) × Report events text status
    × BothSaid begun recorded events old new text status answered
