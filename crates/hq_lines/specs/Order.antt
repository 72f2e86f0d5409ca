-- The order of tests: what the words of a line say, or the first test that fails.
use Rattle.std.specs.Prelude.{ℕ, ◌-◌, ◌^◌, Bool, ◌&&◌, List, [], ◌∷◌, length, Option, Some, None, Result, Ok, Err}
use Rattle.std.specs.Prelude.{codes, replicate, ◌==◌, nat_le, if◌then◌else◌}
use Rattle.std.specs.List.{list_any}
use Rattle.std.specs.Str.{bytes_eq}
use Rattle.hex.specs.Hex.{decode_of, decode_sized}
use Rattle.hq_footprint.specs.declared.task.Code.{Code}
use Rattle.hq_footprint.specs.declared.task.Code.TheVariants as code
use Rattle.hq_packet.specs.Faults.{first_fault}
use Rattle.hq_packet.specs.declared.fault.PacketFault.{PacketFault}
use Rattle.hq_text.specs.Lines.{words_of}
use Rattle.hq_text.specs.Names.{is_name}
use Rattle.hq_text.specs.Numbers.{number_of}
use Rattle.hq_text.specs.InTurn.{◌>>=◌}
use Rattle.hq_lines.specs.declared.fault.LineFault.{LineFault}
use Rattle.hq_lines.specs.declared.fault.LineFault.TheVariants as fault
use Rattle.hq_lines.specs.declared.limits.TheConstants.{BLOCK, BUFFER, SLOTS}
use Rattle.hq_lines.specs.Meaning.{Meaning, Agent, Buffer, Args, Signal, Kernel, Queue, To, End}
use Rattle.hq_lines.specs.Bytes.{is_outside}

-- the name that a word is
unfoldable pub name_said : List ℕ → Result (List ℕ) LineFault
name_said word = if is_name word then Ok word else Err fault.Word

-- the number, if there is one and it is low to high
abbrev pub within : ℕ → ℕ → Option ℕ → Result ℕ LineFault
within low high None = Err fault.Number
within low high (Some n) = if nat_le low n && nat_le n high then Ok n else Err fault.Number

-- the number of a word, low to high
unfoldable pub ranged : ℕ → ℕ → List ℕ → Result ℕ LineFault
ranged low high word = within low high (number_of word)

-- the kernel that a word names
unfoldable pub code_said : List ℕ → Result Code LineFault
code_said word = if bytes_eq word (codes "fill") then Ok code.Fill
    else if bytes_eq word (codes "copy") then Ok code.Copy
    else if bytes_eq word (codes "rev") then Ok code.Rev
    else if bytes_eq word (codes "xor") then Ok code.Xor
    else if bytes_eq word (codes "add") then Ok code.Add
    else if bytes_eq word (codes "sum") then Ok code.Sum
    else Err fault.Word

-- the bytes that were decoded, or the one fault that stands for all faults of digits
abbrev pub decoded : {E : Type 0} → Result (List ℕ) E → Result (List ℕ) LineFault
decoded (Ok bytes) = Ok bytes
decoded (Err e) = Err fault.Hex

-- the bytes of 2 len digits
unfoldable pub sized_said : ℕ → List ℕ → Result (List ℕ) LineFault
sized_said len word = decoded (decode_sized word len)

-- the same, but no bytes at all are a fault too
abbrev pub decoded_some : {E : Type 0} → Result (List ℕ) E → Result (List ℕ) LineFault
decoded_some (Ok []) = Err fault.Hex
decoded_some (Ok (b ∷ bytes)) = Ok (b ∷ bytes)
decoded_some (Err e) = Err fault.Hex

-- the bytes of digits, one or more
unfoldable pub some_said : List ℕ → Result (List ℕ) LineFault
some_said word = decoded_some (decode_of word)

-- at most as many bytes as a kernarg block has
unfoldable pub short_said : List ℕ → Result (List ℕ) LineFault
short_said bytes = if nat_le (length bytes) BLOCK then Ok bytes else Err fault.TooLong

-- a power of two, up to the most slots that a queue has
abbrev pub is_power : ℕ → Bool
is_power n = list_any (λ k. n == 2 ^ k) (0 ∷ 1 ∷ 2 ∷ 3 ∷ 4 ∷ 5 ∷ 6 ∷ 7 ∷ 8 ∷ 9 ∷ 10 ∷ [])

-- how many slots a word says: from 1 to the most that a queue has, and a power of two
unfoldable pub size_said : List ℕ → Result ℕ LineFault
size_said word = do
  size ← ranged 1 SLOTS word
  if is_power size then Ok size else Err fault.QueueSize

-- what `agent NAME` says, by the words behind the first
unfoldable pub agent_said : List (List ℕ) → Result Meaning LineFault
agent_said (name ∷ []) = do
  n ← name_said name
  Ok (Agent n)
agent_said _ = Err fault.Word

-- what `to NAME` says, by the words behind the first
unfoldable pub to_said : List (List ℕ) → Result Meaning LineFault
to_said (name ∷ []) = do
  n ← name_said name
  Ok (To n)
to_said _ = Err fault.Word

-- an address and a count of bytes
unfoldable pub extent_said : List ℕ → List ℕ → Result (ℕ × ℕ) LineFault
extent_said addr len = do
  at ← ranged 1 (2 ^ 48) addr
  count ← ranged 1 BUFFER len
  Ok (at, count)

-- without digits the bytes are 0
unfoldable pub zeros_of : List ℕ → List ℕ → List ℕ → Result Meaning LineFault
zeros_of name addr len = do
  n ← name_said name
  e ← extent_said addr len
  Ok (Buffer n e.0 (replicate e.1 0))

-- with digits the bytes are those that they spell, as many as LEN says
unfoldable pub filled_of : List ℕ → List ℕ → List ℕ → List ℕ → Result Meaning LineFault
filled_of name addr len digits = do
  n ← name_said name
  e ← extent_said addr len
  bytes ← sized_said e.1 digits
  Ok (Buffer n e.0 bytes)

-- what `buffer NAME ADDR LEN` says, with HEX behind it or without, by the words behind the first
unfoldable pub buffer_said : List (List ℕ) → Result Meaning LineFault
buffer_said (name ∷ addr ∷ len ∷ []) = zeros_of name addr len
buffer_said (name ∷ addr ∷ len ∷ digits ∷ []) = filled_of name addr len digits
buffer_said _ = Err fault.Word

-- a kernarg block, by its name, its address, and the digits of its bytes
unfoldable pub args_of : List ℕ → List ℕ → List ℕ → Result Meaning LineFault
args_of name addr digits = do
  n ← name_said name
  at ← ranged 1 (2 ^ 64 - 1) addr
  bytes ← some_said digits
  short ← short_said bytes
  Ok (Args n at short)

-- what `args NAME ADDR HEX` says, by the words behind the first
unfoldable pub args_said : List (List ℕ) → Result Meaning LineFault
args_said (name ∷ addr ∷ digits ∷ []) = args_of name addr digits
args_said _ = Err fault.Word

-- a signal, by its name, its handle, and the value that it starts with
unfoldable pub signal_of : List ℕ → List ℕ → List ℕ → Result Meaning LineFault
signal_of name handle start = do
  n ← name_said name
  h ← ranged 1 (2 ^ 64 - 1) handle
  s ← ranged 0 (2 ^ 63 - 1) start
  Ok (Signal n h s)

-- what `signal NAME HANDLE START` says, by the words behind the first
unfoldable pub signal_said : List (List ℕ) → Result Meaning LineFault
signal_said (name ∷ handle ∷ start ∷ []) = signal_of name handle start
signal_said _ = Err fault.Word

-- a kernel, by its name, its object, and what it computes; the object is tested last
unfoldable pub kernel_of : List ℕ → List ℕ → List ℕ → Result Meaning LineFault
kernel_of name object kind = do
  n ← name_said name
  c ← code_said kind
  o ← ranged 1 (2 ^ 64 - 1) object
  Ok (Kernel n o c)

-- what `kernel NAME OBJECT CODE` says, by the words behind the first
unfoldable pub kernel_said : List (List ℕ) → Result Meaning LineFault
kernel_said (name ∷ object ∷ kind ∷ []) = kernel_of name object kind
kernel_said _ = Err fault.Word

-- a queue, by its name, the name of its agent, and how many slots it has
unfoldable pub queue_of : List ℕ → List ℕ → List ℕ → Result Meaning LineFault
queue_of name owner size = do
  n ← name_said name
  a ← name_said owner
  s ← size_said size
  Ok (Queue n a s)

-- what `queue NAME AGENT SIZE` says, by the words behind the first
unfoldable pub queue_said : List (List ℕ) → Result Meaning LineFault
queue_said (name ∷ owner ∷ size ∷ []) = queue_of name owner size
queue_said _ = Err fault.Word

-- what `end` says, where no word stands behind it
unfoldable pub end_said : List (List ℕ) → Result Meaning LineFault
end_said [] = Ok End
end_said _ = Err fault.Word

-- by the first word, but for packets
unfoldable pub plain_said : List (List ℕ) → Result Meaning LineFault
plain_said [] = Err fault.Word
plain_said (first ∷ others) = if bytes_eq first (codes "agent") then agent_said others
    else if bytes_eq first (codes "buffer") then buffer_said others
    else if bytes_eq first (codes "args") then args_said others
    else if bytes_eq first (codes "signal") then signal_said others
    else if bytes_eq first (codes "kernel") then kernel_said others
    else if bytes_eq first (codes "queue") then queue_said others
    else if bytes_eq first (codes "to") then to_said others
    else if bytes_eq first (codes "end") then end_said others
    else Err fault.Word

-- the digits of a packet line
unfoldable pub packet_digits : List (List ℕ) → Option (List ℕ)
packet_digits (first ∷ digits ∷ []) = if bytes_eq first (codes "packet") then Some digits else None
packet_digits _ = None

-- a fault of the 64 bytes, if they have one, as a fault of their line
abbrev pub packet_fault : Option PacketFault → Option LineFault
packet_fault None = None
packet_fault (Some f) = Some (fault.Packet f)

-- the first fault that the decoded bytes have as a packet; or that of wrong digits, where nothing was decoded
abbrev pub bytes_fault : {E : Type 0} → Result (List ℕ) E → Option LineFault
bytes_fault (Ok bytes) = packet_fault (first_fault bytes)
bytes_fault (Err e) = Some fault.Hex

-- what is wrong with the digits of a packet line: their count or one of them, and then the packet
unfoldable pub digits_fault : List ℕ → Option LineFault
digits_fault digits = bytes_fault (decode_sized digits 64)

-- what is wrong, if anything is
abbrev pub fault_in : {A : Type 0} → Result A LineFault → Option LineFault
fault_in (Ok x) = None
fault_in (Err e) = Some e

-- what is wrong with the digits, where the line is of a packet, and else with the words
abbrev pub fault_by : Option (List ℕ) → List (List ℕ) → Option LineFault
fault_by None words = fault_in (plain_said words)
fault_by (Some digits) words = digits_fault digits

-- the first test that fails of the words of a line
abbrev pub words_fault : List (List ℕ) → Option LineFault
words_fault words = fault_by (packet_digits words) words

-- the first test that fails of a line
abbrev pub line_fault : List ℕ → Option LineFault
line_fault line = if list_any is_outside line then Some fault.Byte else words_fault (words_of line)
