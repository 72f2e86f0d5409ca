-- What each fault of a line means, by the forms that lines may have.
use Rattle.std.specs.Prelude.{◌≡◌, ℕ, ◌-◌, ◌*◌, ◌^◌, ◌≤◌, ◌↔◌, IsTrue, Any, List, [], ◌∷◌, length, codes}
use Rattle.std.specs.Prelude.{Option, Some, None}
use Rattle.std.specs.List.{AllByRecursion}
use Rattle.hq_footprint.specs.declared.task.Code.{Code}
use Rattle.hq_packet.specs.Faults.{first_fault}
use Rattle.hq_packet.specs.declared.fault.PacketFault.{PacketFault}
use Rattle.hq_text.specs.Lines.{words_of}
use Rattle.hq_text.specs.Names.{IsName}
use Rattle.hq_text.specs.Numbers.{IsNumber}
use Rattle.hq_lines.specs.declared.fault.LineFault.TheVariants as fault
use Rattle.hq_lines.specs.declared.limits.TheConstants.{BUFFER, SLOTS}
use Rattle.hq_lines.specs.Bytes.{is_outside}
use Rattle.hq_lines.specs.Order.{line_fault}
use Rattle.hq_lines.specs.Says.{IsWithin, Spells, Codes, IsPower}

-- ---- forms, whatever stands in the places of numbers and digits

-- a word in the place of a number, and how low and how high the number may be
pub record NumberPlace : Type 0 where
  pub low : ℕ
  pub high : ℕ
  pub word : List ℕ

-- what stands in the place of digits: nothing may stand there; digits of so many bytes as a word says; of some
-- bytes; of a packet
pub data DigitsPlace : Type 0 where
  nowhere : DigitsPlace
  counted : List ℕ → List ℕ → DigitsPlace
  some : List ℕ → DigitsPlace
  whole : List ℕ → DigitsPlace

-- the places of a form: those of its numbers, in order, that of its digits, and the word for the size of a queue
pub record Places : Type 0 where
  pub numbers : List NumberPlace
  pub digits : DigitsPlace
  pub size : Option (List ℕ)

-- low to high
abbrev pub number : ℕ → ℕ → List ℕ → NumberPlace
number low high word = record { low = low; high = high; word = word }

-- the places of a form without a queue's size
abbrev pub places : List NumberPlace → DigitsPlace → Places
places numbers digits = record { numbers = numbers; digits = digits; size = None }

-- numbers and nothing else
abbrev pub numbers_only : List NumberPlace → Places
numbers_only numbers = places numbers nowhere

-- The words have the form of a line, with a name in each place of a name and a kernel's word in the place of one,
-- and these are its places of numbers and digits.
pub data HasForm : List (List ℕ) → Places → Type 0 where
  agent : (name : List ℕ) → IsName name → HasForm (codes "agent" ∷ name ∷ []) (numbers_only [])
  zeros : (name addr len : List ℕ) → IsName name
      → HasForm (codes "buffer" ∷ name ∷ addr ∷ len ∷ [])
      (numbers_only (number 1 (2 ^ 48) addr ∷ number 1 BUFFER len ∷ []))
  buffer : (name addr len digits : List ℕ) → IsName name
      → HasForm (codes "buffer" ∷ name ∷ addr ∷ len ∷ digits ∷ [])
      (places (number 1 (2 ^ 48) addr ∷ number 1 BUFFER len ∷ []) (counted len digits))
  args : (name addr digits : List ℕ) → IsName name
      → HasForm (codes "args" ∷ name ∷ addr ∷ digits ∷ []) (places (number 1 (2 ^ 64 - 1) addr ∷ []) (some digits))
  signal : (name h s : List ℕ) → IsName name
      → HasForm (codes "signal" ∷ name ∷ h ∷ s ∷ [])
      (numbers_only (number 1 (2 ^ 64 - 1) h ∷ number 0 (2 ^ 63 - 1) s ∷ []))
  kernel : (name o c : List ℕ) (kind : Code) → IsName name → Codes c kind
      → HasForm (codes "kernel" ∷ name ∷ o ∷ c ∷ []) (numbers_only (number 1 (2 ^ 64 - 1) o ∷ []))
  queue : (name owner s : List ℕ) → IsName name → IsName owner
      → HasForm (codes "queue" ∷ name ∷ owner ∷ s ∷ [])
      (record { numbers = number 1 SLOTS s ∷ []; digits = nowhere; size = Some s })
  to : (name : List ℕ) → IsName name → HasForm (codes "to" ∷ name ∷ []) (numbers_only [])
  packets : (digits : List ℕ) → HasForm (codes "packet" ∷ digits ∷ []) (places [] (whole digits))
  ends : HasForm (codes "end" ∷ []) (numbers_only [])

-- ---- what may stand in the places

-- the word is a number from low to high
abbrev pub IsRight : NumberPlace → Type 0
IsRight p = (n : ℕ) × IsWithin p.low p.high p.word n

-- each number's word is one
abbrev pub NumbersAreRight : Places → Type 0
NumbersAreRight p = AllByRecursion IsRight p.numbers

-- the digits spell these bytes, as many as their place asks for
abbrev pub SpellsIn : DigitsPlace → List ℕ → Type 0
SpellsIn nowhere bytes = bytes ≡ []
SpellsIn (counted len digits) bytes = (n : ℕ) × IsNumber len n × (length digits ≡ 2 * n) × Spells digits bytes
SpellsIn (some digits) bytes = (1 ≤ length bytes) × Spells digits bytes
SpellsIn (whole digits) bytes = (length digits ≡ 128) × Spells digits bytes

-- the digits are so many as their place asks for, and spell bytes
abbrev pub DigitsAreRight : Places → Type 0
DigitsAreRight p = (bytes : List ℕ) × SpellsIn p.digits bytes

-- ---- what is wrong with a line

-- a byte is out of range
abbrev pub HasOutside : List ℕ → Type 0
HasOutside line = Any (λ b. IsTrue (is_outside b)) line

-- no byte is out of range, and the words have no form
pub record HasNoForm (line : List ℕ) : Type 0 where
  pub in_range : ¬ HasOutside line
  pub formless : (p : Places) → ¬ HasForm (words_of line) p

-- no byte is out of range, and the words have a form, but a word in the place of a number is none of its range
pub record HasWrongNumber (line : List ℕ) : Type 0 where
  pub in_range : ¬ HasOutside line
  pub places : Places
  pub form : HasForm (words_of line) places
  pub wrong : ¬ NumbersAreRight places

-- The line is right up to its digits, of which one is none, or which are too many, too few or an odd number.
pub record HasWrongDigits (line : List ℕ) : Type 0 where
  pub in_range : ¬ HasOutside line
  pub places : Places
  pub form : HasForm (words_of line) places
  pub numbers : NumbersAreRight places
  pub wrong : ¬ DigitsAreRight places

-- The line has the 128 digits of 64 bytes, and this is the first fault of the bytes.
pub record HasRefusedPacket (line : List ℕ) (f : PacketFault) : Type 0 where
  pub in_range : ¬ HasOutside line
  pub digits : List ℕ
  pub bytes : List ℕ
  pub form : words_of line ≡ codes "packet" ∷ digits ∷ []
  pub len : length digits ≡ 128
  pub spelled : Spells digits bytes
  pub refused : first_fault bytes ≡ Some f

-- The line is a queue's, and right but for its size, which is from 1 to 1024 but no power of two.
pub record HasWrongSize (line : List ℕ) : Type 0 where
  pub in_range : ¬ HasOutside line
  pub name : List ℕ
  pub owner : List ℕ
  pub word : List ℕ
  pub size : ℕ
  pub form : words_of line ≡ codes "queue" ∷ name ∷ owner ∷ word ∷ []
  pub is_name : IsName name
  pub is_owner : IsName owner
  pub within : IsWithin 1 SLOTS word size
  pub no_power : ¬ IsPower size

-- ---- the laws

-- A line is refused for a byte exactly where one is out of range.
abbrev pub ByteMeans : Type 0
ByteMeans = (line : List ℕ) → (line_fault line ≡ Some fault.Byte) ↔ HasOutside line

-- A line is refused for its words exactly where they have no form.
abbrev pub WordMeans : Type 0
WordMeans = (line : List ℕ) → (line_fault line ≡ Some fault.Word) ↔ HasNoForm line

-- A line is refused for a number exactly where its words have a form, but one of its numbers isn't right.
abbrev pub NumberMeans : Type 0
NumberMeans = (line : List ℕ) → (line_fault line ≡ Some fault.Number) ↔ HasWrongNumber line

-- A line is refused for its digits exactly where all before them is right.
abbrev pub HexMeans : Type 0
HexMeans = (line : List ℕ) → (line_fault line ≡ Some fault.Hex) ↔ HasWrongDigits line

-- A line is refused for its packet exactly where its digits spell 64 bytes that have this first fault.
abbrev pub PacketMeans : Type 0
PacketMeans = (line : List ℕ) (f : PacketFault) → (line_fault line ≡ Some (fault.Packet f)) ↔ HasRefusedPacket line f

-- A line is refused for a queue's size exactly where it is right but for that.
abbrev pub QueueSizeMeans : Type 0
QueueSizeMeans = (line : List ℕ) → (line_fault line ≡ Some fault.QueueSize) ↔ HasWrongSize line
