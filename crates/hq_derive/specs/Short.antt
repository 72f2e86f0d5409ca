-- Lines in one number each.
use Rattle.std.specs.Prelude.{◌≡◌, ℕ, ◌/◌, ◌%◌, ◌<◌, List, [], ◌∷◌, ◌++◌, Option, None, Some}
use Rattle.std.specs.Prelude.{map, slice_get, zero, suc, length, All}
use Rattle.hq_cert.specs.declared.certificate.Line.{Line}
use Rattle.hq_cert.specs.View.{line_of}
use Rattle.hq_model.specs.declared.limits.TheConstants.{PACKETS}
use Rattle.hq_model.specs.Certificate as model
use Rattle.hq_model.specs.Certificate.Rule.{Bit, Queue, And, Through}
use Rattle.hq_derive.specs.declared.short.Short.{Short}
use Rattle.hq_derive.specs.declared.short.TheConstants as short
use Rattle.hq_derive.specs.declared.short.TheConstants.{NUMBERS}
use Rattle.hq_derive.specs.declared.lone.Lone.{Lone}
use Rattle.hq_derive.specs.declared.lone.TheConstants as lone
use Rattle.hq_derive.specs.declared.told.Told.{Told}
use Rattle.hq_derive.specs.declared.told.Told.TheVariants.{Made, Kept}

-- which form of a line the number is for: the rule, by its place in the list that `Short` has
abbrev pub form_of : Short → ℕ
form_of s = s.word % short.FORMS

-- the packet that is before the other
abbrev pub p_of : Short → ℕ
p_of s = s.word / short.FORMS % PACKETS

-- the packet behind it
abbrev pub r_of : Short → ℕ
r_of s = s.word / short.FORMS / PACKETS % PACKETS

-- what the rule cites first
abbrev pub first_of : Short → ℕ
first_of s = s.word / short.FORMS / PACKETS / PACKETS % NUMBERS

-- and second
abbrev pub second_of : Short → ℕ
second_of s = s.word / short.FORMS / PACKETS / PACKETS / NUMBERS % NUMBERS

-- a line that is kept as a whole, where it is there
abbrev pub if_kept : Option Line → model.Line
if_kept None = record { p = 0; r = 0; rule = Queue }
if_kept (Some line) = line_of line

-- the line of this form: that of a barrier-OR is kept as a whole
abbrev pub line_by : List Line → (form p r first second : ℕ) → model.Line
line_by kept zero p r first second = record { p = p; r = r; rule = Bit first }
line_by kept (suc zero) p r first second = record { p = p; r = r; rule = Queue }
line_by kept (suc (suc zero)) p r first second = record { p = p; r = r; rule = And first }
line_by kept (suc (suc (suc zero))) p r first second = record { p = p; r = r; rule = Through first second }
line_by kept (suc (suc (suc (suc form)))) p r first second = if_kept (slice_get kept first)

-- the line that the number is for
abbrev pub line_in : List Line → Short → model.Line
line_in kept s = line_by kept (form_of s) (p_of s) (r_of s) (first_of s) (second_of s)

-- Where the line is kept as a whole, it is one of so many.
abbrev pub IsPlaced : ℕ → Short → Type 0
IsPlaced count s = 3 < form_of s → first_of s < count

-- so is each of these
abbrev pub ArePlaced : List Line → List Short → Type 0
ArePlaced kept words = All (IsPlaced (length kept)) words

-- Behind other lines this one was put, whatever is kept.
abbrev pub PutsLine : (form p r first second : ℕ) → List Short → List Short → Type 0
PutsLine form p r first second old new = (kept : List Line)
    → map (line_in kept) new ≡ map (line_in kept) old ++ line_by kept form p r first second ∷ []

-- Where they were placed they still are, if the line of this form is kept for which the new one may stand.
abbrev pub StayPlaced : (form first : ℕ) → List Short → List Short → Type 0
StayPlaced form first old new = (kept : List Line) → (3 < form → first < length kept) → ArePlaced kept old
    → ArePlaced kept new

-- ---- lines that cite no line

-- the rule of such a line, by its form and the packet or the slot that it names
abbrev pub rule_by : (form named : ℕ) → model.Rule
rule_by zero named = Bit named
rule_by (suc zero) named = Queue
rule_by (suc (suc form)) named = And named

-- the line that such a number is for
abbrev pub lone_line : Lone → model.Line
lone_line l = record {
  p = l.word / lone.FORMS % PACKETS;
  r = l.word / lone.FORMS / PACKETS % PACKETS;
  rule = rule_by (l.word % lone.FORMS) (l.word / lone.FORMS / PACKETS / PACKETS);
}

-- ---- lines as they are told

-- the line that is told
abbrev pub told : Told → model.Line
told (Made line) = line_of line
told (Kept line) = line_of line.now
