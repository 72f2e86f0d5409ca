-- What the first fault of a text says of the line that it names.
use Rattle.std.proofs.Common.{◌≡◌, ℕ, ◌+◌, ◌⊎◌, inl, inr, Bool, true, false, List, [], ◌∷◌, length, refl, sym, ap, subst, ◌∙◌}
use Rattle.std.specs.Prelude.{Option, Some, None, ◌↔◌, ◌||◌, if◌then◌else◌}
use Rattle.std.specs.List.{list_any}
use Rattle.hq_signals.specs.Table.{OpenSignal}
use Rattle.hq_lines.specs.Bytes.{is_outside}
use Rattle.hq_lines.specs.declared.fault.LineFault.{LineFault}
use Rattle.hq_lines.specs.declared.fault.LineFault.TheVariants as line
use Rattle.hq_lines.specs.LineForms.{HasOutside, HasNoForm, HasWrongNumber, HasWrongDigits, HasRefusedPacket, HasWrongSize}
use Rattle.hq_lines.specs.Meaning as says
use Rattle.hq_lines.specs.Meaning.{Meaning}
use Rattle.hq_lines.specs.Order.{line_fault}
use Rattle.hq_lines.specs.Says.{SaysLine}
use Rattle.hq_lines.proofs.Means as means
use Rattle.hq_lines.proofs.Means.{has_outside, outside_has}
use Rattle.hq_jobtext.specs.declared.fault.JobFault.{JobFault}
use Rattle.hq_tables.specs.declared.fault.Reason.{Reason}
use Rattle.hq_tables.specs.declared.fault.Reason.TheVariants as reason
use Rattle.hq_tables.specs.LineFaults.{reason_of}
use Rattle.hq_tables.specs.Tables.{Tables, Test, tests, IsFirst}
use Rattle.hq_jobtext.specs.JobText.{misplaced, Refused, by_itself, by_tables, FirstFault, nothing, headless, faulty, behind, endless, at_end, at_line}
use Rattle.hq_tables.specs.AtEnd.{RefusedAtEnd, undershoot, never_zero}
use Rattle.hq_jobtext.specs.LineMeans.{Behind, AtHead, BehindEnd, HasNoPlace, TurnsWithoutRings, ByteMeans, WordMeans, NumberMeans, PacketMeans, HexMeans, QueueSizeMeans}

-- ---- reasons of a line's own

-- the reasons that a line has by itself alone
abbrev is_own : Reason → Bool
is_own reason.Byte = true
is_own reason.Number = true
is_own (reason.Packet f) = true
is_own reason.Hex = true
is_own reason.QueueSize = true
is_own _ = false

-- these, or the words
abbrev is_word : Reason → Bool
is_word reason.Word = true
is_word reason.Byte = true
is_word reason.Number = true
is_word (reason.Packet f) = true
is_word reason.Hex = true
is_word reason.QueueSize = true
is_word _ = false

-- one of these tests has such a reason
abbrev asks : (Reason → Bool) → List Test → Bool
asks p [] = false
asks p (t ∷ ts) = p t.reason || asks p ts

either : (a b : Bool) → (a || b) ≡ false → (a ≡ false) × (b ≡ false)
either true b e = absurd cc
either false b e = (refl, e)

asked : (p : Reason → Bool) (ts : List Test) (why : Reason) → asks p ts ≡ false → IsFirst ts why → p why ≡ false
asked p [] why none first = absurd first
asked p (t ∷ ts) why none (inl here) = ap p here.1 ∙ (either (p t.reason) (asks p ts) none).0
asked p (t ∷ ts) why none (inr there) = asked p ts why (either (p t.reason) (asks p ts) none).1 there.1

no_test : (ts : Tables) (m : Meaning) → asks is_own (tests ts m) ≡ false
no_test ts (says.Agent name) = refl
no_test ts (says.Buffer name at bytes) = refl
no_test ts (says.Args name at bytes) = refl
no_test ts (says.Signal name handle start) = refl
no_test ts (says.Kernel name object code) = refl
no_test ts (says.Queue name agent size) = refl
no_test ts (says.To name) = refl
no_test ts (says.Packet p) = refl
no_test ts says.End = refl

-- a word that a test of the tables is against is `to`, where queues are no rings
word_test : (ts : Tables) (m : Meaning) (why : Reason) → why ≡ reason.Word → IsFirst (tests ts m) why → (name : List ℕ) × (m ≡ says.To name) × (ts.rings ≡ false)
word_test ts (says.To name) why is (inl here) = (name, refl, here.0)
word_test ts (says.To name) why is (inr (none, inl here)) = absurd (let both : reason.Word ≡ reason.Unknown = sym is ∙ here.1 in cc)
word_test ts (says.To name) why is (inr (none, inr there)) = absurd there.1
word_test ts (says.Agent name) why is first = absurd (let both : true ≡ false = sym (ap is_word is) ∙ asked is_word (tests ts (says.Agent name)) why refl first in cc)
word_test ts (says.Buffer name at bytes) why is first = absurd (let both : true ≡ false = sym (ap is_word is) ∙ asked is_word (tests ts (says.Buffer name at bytes)) why refl first in cc)
word_test ts (says.Args name at bytes) why is first = absurd (let both : true ≡ false = sym (ap is_word is) ∙ asked is_word (tests ts (says.Args name at bytes)) why refl first in cc)
word_test ts (says.Signal name handle start) why is first = absurd (let both : true ≡ false = sym (ap is_word is) ∙ asked is_word (tests ts (says.Signal name handle start)) why refl first in cc)
word_test ts (says.Kernel name object code) why is first = absurd (let both : true ≡ false = sym (ap is_word is) ∙ asked is_word (tests ts (says.Kernel name object code)) why refl first in cc)
word_test ts (says.Queue name agent size) why is first = absurd (let both : true ≡ false = sym (ap is_word is) ∙ asked is_word (tests ts (says.Queue name agent size)) why refl first in cc)
word_test ts (says.Packet p) why is first = absurd (let both : true ≡ false = sym (ap is_word is) ∙ asked is_word (tests ts (says.Packet p)) why refl first in cc)
word_test ts says.End why is first = absurd (let both : true ≡ false = sym (ap is_word is) ∙ asked is_word (tests ts says.End) why refl first in cc)

-- ---- refused lines

-- a reason of a line's own is told of the line by itself
own_refused : (ts : Tables) (l : List ℕ) (why : Reason) → is_own why ≡ true → Refused ts l why → (f : LineFault) × (line_fault l ≡ Some f) × (reason_of f ≡ why)
own_refused ts l why own (by_itself f fault) = (f, fault, refl)
own_refused ts l why own (by_tables m reasoned said first) = absurd (let both : true ≡ false = sym own ∙ asked is_own (tests ts m) reasoned (no_test ts m) first in cc)

-- the fault of a line that has this reason
abbrev fault_of : Reason → Option LineFault
fault_of reason.Byte = Some line.Byte
fault_of reason.Word = Some line.Word
fault_of reason.Number = Some line.Number
fault_of reason.Hex = Some line.Hex
fault_of (reason.Packet f) = Some (line.Packet f)
fault_of reason.QueueSize = Some line.QueueSize
fault_of reason.Limit = Some line.TooLong
fault_of reason.Memory = Some line.Memory
fault_of _ = None

fault_is : (f : LineFault) → fault_of (reason_of f) ≡ Some f
fault_is line.Byte = refl
fault_is line.Word = refl
fault_is line.Number = refl
fault_is line.Hex = refl
fault_is (line.Packet f) = refl
fault_is line.QueueSize = refl
fault_is line.TooLong = refl
fault_is line.Memory = refl

some_is : {A : Type 0} (a b : A) → Some a ≡ Some b → a ≡ b
some_is a b e = cc

only : (f g : LineFault) → reason_of g ≡ reason_of f → g ≡ f
only f g e = some_is g f (sym (fault_is g) ∙ ap fault_of e ∙ fault_is f)

-- so a line is refused exactly where this is its own fault
refused_as : (ts : Tables) (l : List ℕ) (f : LineFault) → is_own (reason_of f) ≡ true → Refused ts l (reason_of f) ↔ (line_fault l ≡ Some f)
refused_as ts l f own = (there, λ e. by_itself f e) where
  there : Refused ts l (reason_of f) → line_fault l ≡ Some f
  there r = let (g, fault, is) = own_refused ts l (reason_of f) own r in subst (λ (h : LineFault). line_fault l ≡ Some h) (only f g is) fault

refused_for_word : (ts : Tables) (l : List ℕ) (why : Reason) → why ≡ reason.Word → Refused ts l why → HasNoForm l ⊎ TurnsWithoutRings ts l
refused_for_word ts l why is (by_itself f fault) = inl ((means.word_means l).0 (subst (λ (h : LineFault). line_fault l ≡ Some h) (only line.Word f is) fault))
refused_for_word ts l why is (by_tables m reasoned said first) =
    let (name, same, rings) = word_test ts m reasoned is first in
    inr (name, subst (λ (n : Meaning). SaysLine l n) same said, rings)

refused_by_word : (ts : Tables) (l : List ℕ) → HasNoForm l ⊎ TurnsWithoutRings ts l → Refused ts l reason.Word
refused_by_word ts l (inl h) = by_itself line.Word ((means.word_means l).1 h)
refused_by_word ts l (inr (name, said, rings)) = by_tables (says.To name) reason.Word said (inl (rings, refl))

-- ---- first faults

-- what the first fault is of: a line that has no place, a line that is refused, or the text's end
data Cause (lines : List (List ℕ)) (f : JobFault) : Type 0 where
  placeless : HasNoPlace lines f.line (λ l. f.reason ≡ misplaced l) → Cause lines f
  refused : Behind lines f.line (λ ts l. Refused ts l f.reason) → Cause lines f
  other : is_word f.reason ≡ false → Cause lines f

at_no_end : (signals : List OpenSignal) (why : Reason) → RefusedAtEnd signals why → is_word why ≡ false
at_no_end signals why (undershoot handle first) = refl
at_no_end signals why (never_zero handle none first) = refl

cause : (lines : List (List ℕ)) (f : JobFault) → FirstFault lines f → Cause lines f
cause lines f (nothing e) = other refl
cause lines f (headless first others e none) = placeless (inl (record { line = first; rest = others; whole = e; no_version = none; counted = refl; so = refl }))
cause lines f (faulty rings first front l rest mid why e v admitted r) =
    refused (record { rings = rings; first = first; front = front; line = l; rest = rest; tables = mid; whole = e; version = v; admitted = admitted; counted = refl; so = r })
cause lines f (behind rings first front last more rest mid e v admitted ends) =
    placeless (inr (record { rings = rings; first = first; front = front; last = last; line = more; rest = rest; tables = mid; whole = e; version = v; admitted = admitted; ends = ends; counted = refl; so = refl }))
cause lines f (endless rings first front mid e v admitted) = other refl
cause lines f (at_end rings first front last mid why e v admitted ends r) = other (at_no_end mid.signals why r)

from_head : (lines : List (List ℕ)) (n : ℕ) (why : Reason) → AtHead lines n (λ l. why ≡ misplaced l) → FirstFault lines (at_line n why)
from_head lines n why h =
    subst (λ (k : ℕ). FirstFault lines (at_line k why)) (sym h.counted) (subst (λ (w : Reason). FirstFault lines (at_line 1 w)) (sym h.so) (headless h.line h.rest h.whole h.no_version))

from_end : (lines : List (List ℕ)) (n : ℕ) (why : Reason) → BehindEnd lines n (λ l. why ≡ misplaced l) → FirstFault lines (at_line n why)
from_end lines n why h =
    subst (λ (k : ℕ). FirstFault lines (at_line k why)) (sym h.counted)
    (subst (λ (w : Reason). FirstFault lines (at_line (length h.front + 3) w)) (sym h.so) (behind h.rings h.first h.front h.last h.line h.rest h.tables h.whole h.version h.admitted h.ends))

from_place : (lines : List (List ℕ)) (n : ℕ) (why : Reason) → HasNoPlace lines n (λ l. why ≡ misplaced l) → FirstFault lines (at_line n why)
from_place lines n why (inl h) = from_head lines n why h
from_place lines n why (inr h) = from_end lines n why h

from_line : (lines : List (List ℕ)) (n : ℕ) (why : Reason) → Behind lines n (λ ts l. Refused ts l why) → FirstFault lines (at_line n why)
from_line lines n why h =
    subst (λ (k : ℕ). FirstFault lines (at_line k why)) (sym h.counted) (faulty h.rings h.first h.front h.line h.rest h.tables why h.whole h.version h.admitted h.so)

-- ---- of lines, whatever is so of them

behind_map : (lines : List (List ℕ)) (n : ℕ) (P Q : Tables → List ℕ → Type 0) → ((ts : Tables) (l : List ℕ) → P ts l → Q ts l) → Behind lines n P → Behind lines n Q
behind_map lines n P Q f h =
    record { rings = h.rings; first = h.first; front = h.front; line = h.line; rest = h.rest; tables = h.tables; whole = h.whole; version = h.version; admitted = h.admitted; counted = h.counted; so = f h.tables h.line h.so }

place_map : (lines : List (List ℕ)) (n : ℕ) (P Q : List ℕ → Type 0) → ((l : List ℕ) → P l → Q l) → HasNoPlace lines n P → HasNoPlace lines n Q
place_map lines n P Q f (inl h) = inl (record { line = h.line; rest = h.rest; whole = h.whole; no_version = h.no_version; counted = h.counted; so = f h.line h.so })
place_map lines n P Q f (inr h) =
    inr (record { rings = h.rings; first = h.first; front = h.front; last = h.last; line = h.line; rest = h.rest; tables = h.tables; whole = h.whole; version = h.version; admitted = h.admitted; ends = h.ends; counted = h.counted; so = f h.line h.so })

-- the reason of a line without a place is its bytes or its words
misplaced_byte : (l : List ℕ) → (reason.Byte ≡ misplaced l) ↔ HasOutside l
misplaced_byte l = (by (list_any is_outside l) refl, λ h. rw (outside_has l h) refl) where
  by : (b : Bool) → list_any is_outside l ≡ b → reason.Byte ≡ (if b then reason.Byte else reason.Word) → HasOutside l
  by true is e = has_outside l is
  by false is e = absurd cc

misplaced_word : (l : List ℕ) → (reason.Word ≡ misplaced l) ↔ (¬ HasOutside l)
misplaced_word l = (there, by (list_any is_outside l) refl) where
  there : reason.Word ≡ misplaced l → ¬ HasOutside l
  there e h = let both : reason.Word ≡ reason.Byte = e ∙ sym ((misplaced_byte l).1 h) in cc

  by : (b : Bool) → list_any is_outside l ≡ b → ¬ HasOutside l → reason.Word ≡ (if b then reason.Byte else reason.Word)
  by true is none = absurd (none (has_outside l is))
  by false is none = refl

no_place : (lines : List (List ℕ)) (n : ℕ) (why : Reason) → is_own why ≡ true → ¬ (why ≡ reason.Byte) → HasNoPlace lines n (λ l. why ≡ misplaced l) → ⊥
no_place lines n why own apart h = by h where
  never : (l : List ℕ) → why ≡ misplaced l → ⊥
  never l e = of_line (list_any is_outside l) e where
    of_line : (b : Bool) → why ≡ (if b then reason.Byte else reason.Word) → ⊥
    of_line true is = apart is
    of_line false is = let both : true ≡ false = sym own ∙ ap is_own is in cc

  by : HasNoPlace lines n (λ l. why ≡ misplaced l) → ⊥
  by (inl x) = never x.line x.so
  by (inr x) = never x.line x.so

-- ---- the laws

-- what a line's own fault means of the line, is what it means of a text's first fault
of_own : (lines : List (List ℕ)) (n : ℕ) (f : LineFault) (P : List ℕ → Type 0) → is_own (reason_of f) ≡ true → is_word (reason_of f) ≡ true → ¬ (reason_of f ≡ reason.Byte) → ((l : List ℕ) → (line_fault l ≡ Some f) ↔ P l)
    → FirstFault lines (at_line n (reason_of f)) ↔ Behind lines n (λ ts l. P l)
of_own lines n f P own told apart means_it = (there, back) where
  by : Cause lines (at_line n (reason_of f)) → Behind lines n (λ ts l. P l)
  by (placeless h) = absurd (no_place lines n (reason_of f) own apart h)
  by (refused h) = behind_map lines n _ _ (λ ts l r. (means_it l).0 ((refused_as ts l f own).0 r)) h
  by (other none) = absurd (let both : true ≡ false = sym told ∙ none in cc)

  there : FirstFault lines (at_line n (reason_of f)) → Behind lines n (λ ts l. P l)
  there first = by (cause lines (at_line n (reason_of f)) first)

  back : Behind lines n (λ ts l. P l) → FirstFault lines (at_line n (reason_of f))
  back h = from_line lines n (reason_of f) (behind_map lines n _ _ (λ ts l p. (refused_as ts l f own).1 ((means_it l).1 p)) h)

pub number_means : NumberMeans
number_means lines n = of_own lines n line.Number HasWrongNumber refl refl (λ e. cc) means.number_means

pub hex_means : HexMeans
hex_means lines n = of_own lines n line.Hex HasWrongDigits refl refl (λ e. cc) means.hex_means

pub packet_means : PacketMeans
packet_means lines n f = of_own lines n (line.Packet f) (λ l. HasRefusedPacket l f) refl refl (λ e. cc) (λ l. means.packet_means l f)

pub queue_size_means : QueueSizeMeans
queue_size_means lines n = of_own lines n line.QueueSize HasWrongSize refl refl (λ e. cc) means.queue_size_means

pub byte_means : ByteMeans
byte_means lines n = (λ first. by (cause lines (at_line n reason.Byte) first), back) where
  by : Cause lines (at_line n reason.Byte) → HasNoPlace lines n HasOutside ⊎ Behind lines n (λ ts l. HasOutside l)
  by (placeless h) = inl (place_map lines n _ _ (λ l e. (misplaced_byte l).0 e) h)
  by (refused h) = inr (behind_map lines n _ _ (λ ts l r. (means.byte_means l).0 ((refused_as ts l line.Byte refl).0 r)) h)
  by (other none) = absurd cc

  back : HasNoPlace lines n HasOutside ⊎ Behind lines n (λ ts l. HasOutside l) → FirstFault lines (at_line n reason.Byte)
  back (inl h) = from_place lines n reason.Byte (place_map lines n _ _ (λ l p. (misplaced_byte l).1 p) h)
  back (inr h) = from_line lines n reason.Byte (behind_map lines n _ _ (λ ts l p. (refused_as ts l line.Byte refl).1 ((means.byte_means l).1 p)) h)

pub word_means : WordMeans
word_means lines n = (λ first. by (cause lines (at_line n reason.Word) first), back) where
  by : Cause lines (at_line n reason.Word) → HasNoPlace lines n (λ l. ¬ HasOutside l) ⊎ Behind lines n (λ ts l. HasNoForm l ⊎ TurnsWithoutRings ts l)
  by (placeless h) = inl (place_map lines n _ _ (λ l e. (misplaced_word l).0 e) h)
  by (refused h) = inr (behind_map lines n _ _ (λ ts l r. refused_for_word ts l reason.Word refl r) h)
  by (other none) = absurd cc

  back : HasNoPlace lines n (λ l. ¬ HasOutside l) ⊎ Behind lines n (λ ts l. HasNoForm l ⊎ TurnsWithoutRings ts l) → FirstFault lines (at_line n reason.Word)
  back (inl h) = from_place lines n reason.Word (place_map lines n _ _ (λ l p. (misplaced_word l).1 p) h)
  back (inr h) = from_line lines n reason.Word (behind_map lines n _ _ (λ ts l p. refused_by_word ts l p) h)
