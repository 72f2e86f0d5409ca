-- The words behind `pack`, and the fields of a packet that they say: numbers and names at places.
use Rattle.std.specs.Prelude.{◌≡◌, ℕ, zero, suc, ◌+◌, ◌^◌, Bool, List, [], ◌∷◌, length, Option, Some, None, codes}
use Rattle.std.specs.Prelude.{slice_index_or, nat_lt, option_map, if◌then◌else◌}
use Rattle.hq_packet.specs.declared.packet.AgentCall.{AgentCall}
use Rattle.hq_packet.specs.declared.packet.Barrier.{Barrier}
use Rattle.hq_packet.specs.declared.packet.Head.{Head}
use Rattle.hq_packet.specs.declared.packet.KernelFields.{KernelFields}
use Rattle.hq_packet.specs.declared.packet.Packet.{Packet}
use Rattle.hq_packet.specs.declared.packet.Packet.TheVariants as packet
use Rattle.hq_packet.specs.declared.fault.PacketFault.{PacketFault}
use Rattle.hq_packet.specs.Dispatches.{fields_of, field_tests}
use Rattle.hq_packet.specs.Faults.{first_of}
use Rattle.hq_report.specs.Shown.{scope_word}
use Rattle.hq_text.specs.Numbers.{number_of}
use Rattle.hq_showing.specs.declared.fields.Fields.{Fields}
use Rattle.hq_showing.specs.declared.fields.Fields.TheVariants.{Kernel, Agent, And, Or}

-- ---- single words

-- the word at a place, the empty one where there is none
abbrev pub word_at : List (List ℕ) → ℕ → List ℕ
word_at words place = slice_index_or words place []

-- the number, if it has so many bits
abbrev pub within : ℕ → Option ℕ → Option ℕ
within bits None = None
within bits (Some n) = if nat_lt n (2 ^ bits) then Some n else None

-- the number of so many bits that the word at a place is
abbrev pub number_in : ℕ → List (List ℕ) → ℕ → Option ℕ
number_in bits words place = within bits (number_of (word_at words place))

-- the number and then these, where there are both
abbrev pub with_first : Option ℕ → Option (List ℕ) → Option (List ℕ)
with_first None ns = None
with_first (Some n) ns = option_map (λ more. n ∷ more) ns

-- so many numbers, of so many bits each, in words one behind another
abbrev pub numbers_in : ℕ → ℕ → List (List ℕ) → ℕ → Option (List ℕ)
numbers_in zero bits words place = Some []
numbers_in (suc count) bits words place = with_first (number_in bits words place)
    (numbers_in count bits words (place + 1))

-- the word for a barrier bit
abbrev pub bit_word : Bool → List ℕ
bit_word bit = if bit then codes "1" else codes "0"

-- ---- whole packets

-- a packet's first words: its kind, BIT, ACQUIRE, RELEASE
pub record HeadWords (kind : List ℕ) (words : List (List ℕ)) (head : Head) : Type 0 where
  pub kind_is : word_at words 0 ≡ kind
  pub bit_is : word_at words 1 ≡ bit_word head.barrier
  pub acquire_is : word_at words 2 ≡ scope_word head.acquire
  pub release_is : word_at words 3 ≡ scope_word head.release

-- kernel BIT ACQUIRE RELEASE SETUP WX WY WZ GX GY GZ PRIVATE GROUP OBJECT KERNARG DONE
pub record KernelWords (words : List (List ℕ)) (f : KernelFields) : Type 0 where
  pub count : length words ≡ 16
  pub head_is : HeadWords (codes "kernel") words f.head
  pub setup_is : number_in 16 words 4 ≡ Some f.dimensions
  pub group_is : numbers_in 3 16 words 5 ≡ Some f.group
  pub grid_is : numbers_in 3 32 words 8 ≡ Some f.grid
  pub private_is : number_in 32 words 11 ≡ Some f.private_size
  pub group_size_is : number_in 32 words 12 ≡ Some f.group_size
  pub object_is : number_in 64 words 13 ≡ Some f.object
  pub kernarg_is : number_in 64 words 14 ≡ Some f.kernarg
  pub completion_is : number_in 64 words 15 ≡ Some f.completion

-- agent BIT ACQUIRE RELEASE TYPE RET A0 A1 A2 A3 DONE
pub record AgentWords (words : List (List ℕ)) (a : AgentCall) : Type 0 where
  pub count : length words ≡ 11
  pub head_is : HeadWords (codes "agent") words a.head
  pub kind_is : number_in 16 words 4 ≡ Some a.kind
  pub ret_is : number_in 64 words 5 ≡ Some a.ret
  pub args_is : numbers_in 4 64 words 6 ≡ Some a.args
  pub completion_is : number_in 64 words 10 ≡ Some a.completion

-- and|or BIT ACQUIRE RELEASE D0 D1 D2 D3 D4 DONE
pub record BarrierWords (kind : List ℕ) (words : List (List ℕ)) (b : Barrier) : Type 0 where
  pub count : length words ≡ 10
  pub head_is : HeadWords kind words b.head
  pub deps_is : numbers_in 5 64 words 4 ≡ Some b.deps
  pub completion_is : number_in 64 words 9 ≡ Some b.completion

-- the words say these fields
abbrev pub Say : List (List ℕ) → Fields → Type 0
Say words (Kernel f) = KernelWords words f
Say words (Agent a) = AgentWords words a
Say words (And b) = BarrierWords (codes "and") words b
Say words (Or b) = BarrierWords (codes "or") words b

-- the fields that a packet has
abbrev pub fields_in : Packet → Fields
fields_in (packet.Kernel k) = Kernel (fields_of k)
fields_in (packet.Agent a) = Agent a
fields_in (packet.And b) = And b
fields_in (packet.Or b) = Or b

-- the first fault of fields that no packet has: only those of a kernel dispatch may have one
abbrev pub fields_fault : Fields → Option PacketFault
fields_fault (Kernel f) = first_of (field_tests f)
fields_fault (Agent a) = None
fields_fault (And b) = None
fields_fault (Or b) = None
