-- What the words of a command line ask for.
use Rattle.std.specs.Prelude.{◌≡◌, Bool, false, List, [], ◌∷◌, Option, Some, None, codes, map, option_map}
use Rattle.std.specs.Str.{bytes_eq}
use Rattle.clap.specs.Lexer.{strip_byte}
use Rattle.clap.specs.Words.{Row, Text, all_of, first_of, subcommand_of}
use Rattle.hq_words.specs.Commands.{hsaq_app}
use Rattle.hq_words.specs.declared.words.Asked.{Asked}
use Rattle.hq_words.specs.declared.words.Asked.TheVariants.{Show, Pack, Audit, Check, Run, Replay, Chart, Graph}
use Rattle.hq_words.specs.declared.words.Asked.TheVariants.{Explain, Witness, Fix, Trim}
use Rattle.hq_words.specs.declared.words.WordsFault.{WordsFault}
use Rattle.hq_words.specs.declared.words.WordsFault.TheVariants.{Words, Memory}

-- no words at all stand for `audit @`
abbrev pub words_or_audit : List Text → List Text
words_or_audit [] = codes "audit" ∷ codes "@" ∷ []
words_or_audit (word ∷ words) = word ∷ words

-- whether a flag is set, by `clap`'s word for that
abbrev pub is_set : Option Text → Bool
is_set None = false
is_set (Some word) = bytes_eq word (codes "true")

-- a command that takes files, with the words for these: a job, a certificate, a timeline to read, a file to write
-- one to; whether copies are asked for; which pair is, by its first packet and its second, and whether all are
abbrev pub AsksWith : Text → Option Text → Option Text → Option Text → Option Text → Option Text → Option Text
    → Option Text → Option Text → Asked → Type 0
AsksWith name job certificate timeline out copies pair second all (Show a) = (name ≡ codes "show") × (job ≡ Some a.now)
AsksWith name job certificate timeline out copies pair second all (Pack words) = ⊥
AsksWith name job certificate timeline out copies pair second all (Witness a b c) = ⊥
AsksWith name job certificate timeline out copies pair second all (Audit a) = (name ≡ codes "audit")
    × (job ≡ Some a.now)
AsksWith name job certificate timeline out copies pair second all (Check a b) = (name ≡ codes "check")
    × (job ≡ Some a.now) × (certificate ≡ Some b.now)
AsksWith name job certificate timeline out copies pair second all (Run a b) = (name ≡ codes "run") × (job ≡ Some a.now)
    × (out ≡ option_map (λ o. o.now) b)
AsksWith name job certificate timeline out copies pair second all (Replay a b) = (name ≡ codes "replay")
    × (job ≡ Some a.now) × (timeline ≡ Some b.now)
AsksWith name job certificate timeline out copies pair second all (Chart a b c) = (name ≡ codes "chart")
    × (job ≡ Some a.now) × (timeline ≡ Some b.now) × (c ≡ is_set copies)
AsksWith name job certificate timeline out copies pair second all (Graph a) = (name ≡ codes "graph")
    × (job ≡ Some a.now)
AsksWith name job certificate timeline out copies pair second all (Fix a) = (name ≡ codes "fix") × (job ≡ Some a.now)
AsksWith name job certificate timeline out copies pair second all (Trim a) = (name ≡ codes "trim") × (job ≡ Some a.now)
AsksWith name job certificate timeline out copies pair second all (Explain a b c d) = (name ≡ codes "explain")
    × (job ≡ Some a.now) × (pair ≡ option_map (λ p. p.now) b) × (second ≡ option_map (λ p. p.now) c) × (d ≡ is_set all)

-- a command that takes a job alone, whatever other words there are
abbrev pub AsksAlone : Text → Text → Asked → Type 0
AsksAlone name job asked =
    (certificate timeline out copies pair second all : Option Text)
    → AsksWith name (Some job) certificate timeline out copies pair second all asked

-- a command that takes a job and a second file, whatever is said of pairs
abbrev pub AsksOfTwo : Text → Text → Option Text → Option Text → Option Text → Option Text → Asked → Type 0
AsksOfTwo name job certificate timeline out copies asked =
    (pair second all : Option Text) → AsksWith name (Some job) certificate timeline out copies pair second all asked

-- so it is with the words that stand for the arguments
abbrev pub AsksOf : Text → List Row → Asked → Type 0
AsksOf name rows asked =
    AsksWith name (first_of (codes "JOB") rows) (first_of (codes "CERT") rows) (first_of (codes "TIMELINE") rows)
    (first_of (codes "OUT") rows) (first_of (codes "COPIES") rows) (first_of (codes "PAIR") rows)
    (first_of (codes "SECOND") rows) (first_of (codes "ALL") rows) asked

-- the command of this name, with these arguments, is what is asked for
abbrev pub AsksFor : Text → List Row → Asked → Type 0
AsksFor name rows (Pack words) = (name ≡ codes "pack")
    × (all_of (codes "WORDS") rows ≡ Some (map (λ w. w.now) words.items))
AsksFor name rows (Witness a b c) =
    (name ≡ codes "witness") × (first_of (codes "JOB") rows ≡ Some a.now)
    × (first_of (codes "GOOD") rows ≡ option_map (λ o. o.now) b)
    × (first_of (codes "BAD") rows ≡ option_map (λ o. o.now) c)
AsksFor name rows (Show a) = AsksOf name rows (Show a)
AsksFor name rows (Audit a) = AsksOf name rows (Audit a)
AsksFor name rows (Check a b) = AsksOf name rows (Check a b)
AsksFor name rows (Run a b) = AsksOf name rows (Run a b)
AsksFor name rows (Replay a b) = AsksOf name rows (Replay a b)
AsksFor name rows (Chart a b c) = AsksOf name rows (Chart a b c)
AsksFor name rows (Graph a) = AsksOf name rows (Graph a)
AsksFor name rows (Explain a b c d) = AsksOf name rows (Explain a b c d)
AsksFor name rows (Fix a) = AsksOf name rows (Fix a)
AsksFor name rows (Trim a) = AsksOf name rows (Trim a)

-- of what `clap` finds: the command's name, and its arguments
abbrev pub Asks : Option (Text × List Row) → Asked → Type 0
Asks None asked = ⊥
Asks (Some (name, rows)) asked = AsksFor name rows asked

-- The words are `audit` and a job that is no option, since it doesn't begin with a hyphen (byte 45), and no others.
abbrev pub AuditsAlone : List Text → Type 0
AuditsAlone (name ∷ job ∷ []) = (name ≡ codes "audit") × (strip_byte 45 job ≡ None)
AuditsAlone _ = ⊥

-- The fault is what `clap` says of the words.
abbrev pub IsWords : WordsFault → Type 0
IsWords (Words e) = Unit {0}
IsWords Memory = ⊥

-- The fault is that memory ran out.
abbrev pub IsMemory : WordsFault → Type 0
IsMemory (Words e) = ⊥
IsMemory Memory = Unit {0}

-- the words behind the program's name ask for this
abbrev pub AsksWords : List Text → Asked → Type 0
AsksWords words asked = Asks (subcommand_of hsaq_app (words_or_audit words)) asked
