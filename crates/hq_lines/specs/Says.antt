-- The forms of lines: what the words of a line say.
use Rattle.std.specs.Prelude.{◌≡◌, ℕ, ◌-◌, ◌*◌, ◌^◌, ◌≤◌, List, [], ◌∷◌, length, Ok, codes, replicate, false}
use Rattle.std.specs.List.{list_any}
use Rattle.hex.specs.Hex.{decode_of}
use Rattle.hq_footprint.specs.declared.task.Code.{Code}
use Rattle.hq_footprint.specs.declared.task.Code.TheVariants as code
use Rattle.hq_packet.specs.declared.packet.Packet as packet
use Rattle.hq_packet.specs.PacketText.{PacketText}
use Rattle.hq_text.specs.Lines.{words_of}
use Rattle.hq_text.specs.Names.{IsName}
use Rattle.hq_text.specs.Numbers.{IsNumber}
use Rattle.hq_lines.specs.declared.limits.TheConstants.{BLOCK, BUFFER, SLOTS}
use Rattle.hq_lines.specs.Meaning.{Meaning, Agent, Buffer, Args, Signal, Kernel, Queue, To, Packet, End}
use Rattle.hq_lines.specs.Bytes.{is_outside}

-- the word is the number n, which is low to high
pub record IsWithin (low high : ℕ) (word : List ℕ) (n : ℕ) : Type 0 where
  pub number : IsNumber word n
  pub from : low ≤ n
  pub upto : n ≤ high

-- two hexadecimal digits of either case for each byte, the high four bits first
abbrev pub Spells : List ℕ → List ℕ → Type 0
Spells digits bytes = decode_of digits ≡ Ok bytes

-- the words for the kernels
pub data Codes : List ℕ → Code → Type 0 where
  fill : Codes (codes "fill") code.Fill
  copy : Codes (codes "copy") code.Copy
  rev : Codes (codes "rev") code.Rev
  xor : Codes (codes "xor") code.Xor
  add : Codes (codes "add") code.Add
  sum : Codes (codes "sum") code.Sum

-- a power of two, as the size of a queue is (HSA Platform System Architecture Specification 1.2, "User mode queuing")
pub record IsPower (n : ℕ) : Type 0 where
  pub exponent : ℕ
  pub power : n ≡ 2 ^ exponent

-- 128 digits that spell a packet
pub record SpellsPacket (digits : List ℕ) (m : Meaning) : Type 0 where
  pub bytes : List ℕ
  pub sent : packet.Packet
  pub len : length digits ≡ 128
  pub spelled : Spells digits bytes
  pub text : PacketText bytes sent
  pub is : m ≡ Packet sent

-- the words say this
pub data Says : List (List ℕ) → Meaning → Type 0 where
  -- agent NAME
  agent : (name : List ℕ) → IsName name → Says (codes "agent" ∷ name ∷ []) (Agent name)
  -- buffer NAME ADDR LEN
  zeros : (name addr len : List ℕ) (at n : ℕ) → IsName name → IsWithin 1 (2 ^ 48) addr at → IsWithin 1 BUFFER len n
      → Says (codes "buffer" ∷ name ∷ addr ∷ len ∷ []) (Buffer name at (replicate n 0))
  -- buffer NAME ADDR LEN HEX
  buffer : (name addr len digits : List ℕ) (at n : ℕ) (bytes : List ℕ) → IsName name → IsWithin 1 (2 ^ 48) addr at
      → IsWithin 1 BUFFER len n → length digits ≡ 2 * n → Spells digits bytes
      → Says (codes "buffer" ∷ name ∷ addr ∷ len ∷ digits ∷ []) (Buffer name at bytes)
  -- args NAME ADDR HEX
  args : (name addr digits : List ℕ) (at : ℕ) (bytes : List ℕ) → IsName name → IsWithin 1 (2 ^ 64 - 1) addr at
      → Spells digits bytes → 1 ≤ length bytes → length bytes ≤ BLOCK
      → Says (codes "args" ∷ name ∷ addr ∷ digits ∷ []) (Args name at bytes)
  -- signal NAME HANDLE START
  signal : (name h s : List ℕ) (handle start : ℕ) → IsName name → IsWithin 1 (2 ^ 64 - 1) h handle
      → IsWithin 0 (2 ^ 63 - 1) s start
      → Says (codes "signal" ∷ name ∷ h ∷ s ∷ []) (Signal name handle start)
  -- kernel NAME OBJECT CODE
  kernel : (name o c : List ℕ) (object : ℕ) (kind : Code) → IsName name → Codes c kind
      → IsWithin 1 (2 ^ 64 - 1) o object
      → Says (codes "kernel" ∷ name ∷ o ∷ c ∷ []) (Kernel name object kind)
  -- queue NAME AGENT SIZE
  queue : (name owner s : List ℕ) (size : ℕ) → IsName name → IsName owner → IsWithin 1 SLOTS s size → IsPower size
      → Says (codes "queue" ∷ name ∷ owner ∷ s ∷ []) (Queue name owner size)
  -- to NAME
  to : (name : List ℕ) → IsName name → Says (codes "to" ∷ name ∷ []) (To name)
  -- packet HEX
  packets : (digits bytes : List ℕ) (p : packet.Packet) → length digits ≡ 128 → Spells digits bytes → PacketText bytes p
      → Says (codes "packet" ∷ digits ∷ []) (Packet p)
  -- end
  ends : Says (codes "end" ∷ []) End

-- the line says this: no byte is out of range, and its words say it
pub record SaysLine (line : List ℕ) (m : Meaning) : Type 0 where
  pub in_range : list_any is_outside line ≡ false
  pub words : Says (words_of line) m
