-- What the words of files ask for.
use Rattle.std.proofs.Common.{◌≡◌, List, Option, codes, sym, ap, ◌∙◌}
use Rattle.clap.specs.Words.{Row, Text, first_of}
use Rattle.hq_words.specs.Asking.{AsksFor, AsksWith, is_set}
use Rattle.hq_words.specs.declared.words.Asked.{Asked}
use Rattle.hq_words.specs.declared.words.Asked.TheVariants.{Show, Pack, Audit, Check, Run, Replay, Chart, Graph, Explain, Witness, Fix, Trim}

pub asks_for : (name : Text) (rows : List Row) (job certificate timeline out copies pair second all : Option Text) (asked : Asked) → job ≡ first_of (codes "JOB") rows → certificate ≡ first_of (codes "CERT") rows → timeline ≡ first_of (codes "TIMELINE") rows → out ≡ first_of (codes "OUT") rows → copies ≡ first_of (codes "COPIES") rows → pair ≡ first_of (codes "PAIR") rows → second ≡ first_of (codes "SECOND") rows → all ≡ first_of (codes "ALL") rows → AsksWith name job certificate timeline out copies pair second all asked → AsksFor name rows asked
asks_for name rows job certificate timeline out copies pair second all (Show a) e f g h i j l k with_files = (with_files.0, sym e ∙ with_files.1)
asks_for name rows job certificate timeline out copies pair second all (Pack words) e f g h i j l k with_files = absurd with_files
asks_for name rows job certificate timeline out copies pair second all (Witness a b c) e f g h i j l k with_files = absurd with_files
asks_for name rows job certificate timeline out copies pair second all (Audit a) e f g h i j l k with_files = (with_files.0, sym e ∙ with_files.1)
asks_for name rows job certificate timeline out copies pair second all (Check a b) e f g h i j l k with_files = (with_files.0, sym e ∙ with_files.1, sym f ∙ with_files.2)
asks_for name rows job certificate timeline out copies pair second all (Run a b) e f g h i j l k with_files = (with_files.0, sym e ∙ with_files.1, sym h ∙ with_files.2)
asks_for name rows job certificate timeline out copies pair second all (Replay a b) e f g h i j l k with_files = (with_files.0, sym e ∙ with_files.1, sym g ∙ with_files.2)
asks_for name rows job certificate timeline out copies pair second all (Chart a b c) e f g h i j l k with_files = (with_files.0, sym e ∙ with_files.1, sym g ∙ with_files.2, with_files.3 ∙ ap is_set i)
asks_for name rows job certificate timeline out copies pair second all (Graph a) e f g h i j l k with_files = (with_files.0, sym e ∙ with_files.1)
asks_for name rows job certificate timeline out copies pair second all (Explain a b c d) e f g h i j l k with_files = (with_files.0, sym e ∙ with_files.1, sym j ∙ with_files.2, sym l ∙ with_files.3, with_files.4 ∙ ap is_set k)
asks_for name rows job certificate timeline out copies pair second all (Fix a) e f g h i j l k with_files = (with_files.0, sym e ∙ with_files.1)
asks_for name rows job certificate timeline out copies pair second all (Trim a) e f g h i j l k with_files = (with_files.0, sym e ∙ with_files.1)
