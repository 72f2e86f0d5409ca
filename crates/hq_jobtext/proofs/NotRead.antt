-- That the reader failed is no fault of a text.
use Rattle.std.proofs.Common.{◌≡◌, ℕ, inl, inr, Bool, true, false, List, [], ◌∷◌, refl, sym, ap, ◌∙◌}
use Rattle.std.specs.Prelude.{◌||◌, if◌then◌else◌}
use Rattle.std.specs.List.{list_any}
use Rattle.hq_lines.specs.Bytes.{is_outside}
use Rattle.hq_lines.specs.declared.fault.LineFault.{LineFault}
use Rattle.hq_lines.specs.declared.fault.LineFault.TheVariants as line
use Rattle.hq_lines.specs.Meaning as says
use Rattle.hq_lines.specs.Meaning.{Meaning}
use Rattle.hq_signals.specs.Table.{OpenSignal}
use Rattle.hq_jobtext.specs.declared.fault.JobFault.{JobFault}
use Rattle.hq_tables.specs.declared.fault.Reason.{Reason}
use Rattle.hq_tables.specs.declared.fault.Reason.TheVariants as reason
use Rattle.hq_tables.specs.LineFaults.{reason_of}
use Rattle.hq_tables.specs.Tables.{Tables, Test, tests, IsFirst}
use Rattle.hq_jobtext.specs.JobText.{Refused, by_itself, by_tables, FirstFault, nothing, headless, faulty, behind, endless, at_end}
use Rattle.hq_tables.specs.AtEnd.{RefusedAtEnd, undershoot, never_zero}

abbrev is_read : Reason → Bool
is_read reason.Read = true
is_read _ = false

-- one of these tests has that reason
abbrev asks_reader : List Test → Bool
asks_reader [] = false
asks_reader (t ∷ ts) = is_read t.reason || asks_reader ts

either : (a b : Bool) → (a || b) ≡ false → (a ≡ false) × (b ≡ false)
either true b e = absurd cc
either false b e = (refl, e)

first_of_tests : (ts : List Test) (why : Reason) → asks_reader ts ≡ false → IsFirst ts why → is_read why ≡ false
first_of_tests [] why none first = absurd first
first_of_tests (t ∷ ts) why none (inl here) = ap is_read here.1 ∙ (either (is_read t.reason) (asks_reader ts) none).0
first_of_tests (t ∷ ts) why none (inr there) = first_of_tests ts why (either (is_read t.reason) (asks_reader ts) none).1 there.1

no_test : (ts : Tables) (m : Meaning) → asks_reader (tests ts m) ≡ false
no_test ts (says.Agent name) = refl
no_test ts (says.Buffer name at bytes) = refl
no_test ts (says.Args name at bytes) = refl
no_test ts (says.Signal name handle start) = refl
no_test ts (says.Kernel name object code) = refl
no_test ts (says.Queue name agent size) = refl
no_test ts (says.To name) = refl
no_test ts (says.Packet p) = refl
no_test ts says.End = refl

no_line : (f : LineFault) → is_read (reason_of f) ≡ false
no_line line.Byte = refl
no_line line.Word = refl
no_line line.Number = refl
no_line line.Hex = refl
no_line (line.Packet f) = refl
no_line line.QueueSize = refl
no_line line.TooLong = refl
no_line line.Memory = refl

no_refusal : (ts : Tables) (l : List ℕ) (why : Reason) → Refused ts l why → is_read why ≡ false
no_refusal ts l why (by_itself f fault) = no_line f
no_refusal ts l why (by_tables m reasoned said first) = first_of_tests (tests ts m) reasoned (no_test ts m) first

no_misplaced : (b : Bool) → is_read (if b then reason.Byte else reason.Word) ≡ false
no_misplaced true = refl
no_misplaced false = refl

at_no_end : (signals : List OpenSignal) (why : Reason) → RefusedAtEnd signals why → is_read why ≡ false
at_no_end signals why (undershoot handle first) = refl
at_no_end signals why (never_zero handle none first) = refl

is_not : (lines : List (List ℕ)) (f : JobFault) → FirstFault lines f → is_read f.reason ≡ false
is_not lines f (nothing e) = refl
is_not lines f (headless first others e none) = no_misplaced (list_any is_outside first)
is_not lines f (faulty rings first front l rest mid why e v admitted refused) = no_refusal mid l why refused
is_not lines f (behind rings first front last more rest mid e v admitted ends) = no_misplaced (list_any is_outside more)
is_not lines f (endless rings first front mid e v admitted) = refl
is_not lines f (at_end rings first front last mid why e v admitted ends refused) = at_no_end mid.signals why refused

pub not_read : (lines : List (List ℕ)) (f : JobFault) → FirstFault lines f → f.reason ≡ reason.Read → ⊥
not_read lines f first e = let both : false ≡ true = sym (is_not lines f first) ∙ ap is_read e in cc
