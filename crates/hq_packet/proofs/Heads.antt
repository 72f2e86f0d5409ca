-- The head's byte: where it stands, whose it is, and packets with another.
use Rattle.std.proofs.Common.{◌≡◌, ℕ, zero, suc, ◌+◌, ◌*◌, ◌<◌, Bool, true, false, cond, List, [], ◌∷◌, slice_index, sym, ap, ◌∙◌, arith}
use Rattle.hq_packet.specs.declared.packet.Scope.{Scope}
use Rattle.hq_packet.specs.declared.packet.Scope.TheVariants as scope
use Rattle.hq_packet.specs.declared.packet.Head.{Head}
use Rattle.hq_packet.specs.declared.packet.Kernel.{Kernel}
use Rattle.hq_packet.specs.declared.packet.AgentCall.{AgentCall}
use Rattle.hq_packet.specs.declared.packet.Barrier.{Barrier}
use Rattle.hq_packet.specs.declared.packet.Packet.{Packet}
use Rattle.hq_packet.specs.declared.packet.Packet.TheVariants as packet
use Rattle.std.specs.Int.{w16}
use Rattle.hq_packet.specs.Fields.{number_at}
use Rattle.hq_packet.specs.PacketText.{scope_code, header, KernelText, AgentText, BarrierText, FieldsAgree}
use Rattle.hq_packet.specs.Parts.{head_of, with_head, kernel_with_head}
use Rattle.hq_packet.specs.HeadByte.{head_byte}
use Rattle.hq_packet.specs.Laws.{HeadStandsSecond, OneHead, AnotherHead}
use Rattle.hq_packet.proofs.Headers.{header_inj}

-- ---- a header as two bytes

header_is : (format : ℕ) (head : Head) → header format head ≡ format + 256 * head_byte head
header_is format head = omega arith

scope_low : (s : Scope) → scope_code s < 3
scope_low scope.None = omega arith
scope_low scope.Agent = omega arith
scope_low scope.System = omega arith

bit_low : (b : Bool) → cond {A = ℕ} b 1 0 < 2
bit_low true = omega arith
bit_low false = omega arith

pub byte_small : (head : Head) → head_byte head < 32
byte_small head = omega (arith, bit_low head.barrier, scope_low head.acquire, scope_low head.release)

pub one_head : OneHead
one_head g h e = header_inj 2 g h (omega arith) (omega (arith, header_is 2 g, header_is 2 h, e))

-- both bytes of a header
pub record TwoBytes (x y format : ℕ) (head : Head) : Type 0 where
  pub first : x ≡ format
  pub second : y ≡ head_byte head

two_bytes : (x y format : ℕ) (head : Head) → x < 256 → format < 256 → x + 256 * y ≡ header format head → TwoBytes x y format head
two_bytes x y format head lx lf e =
    let h : header format head ≡ format + 256 * head_byte head = header_is format head in
    record { first = omega (arith, e, h); second = omega (arith, e, h) }

first_two : (x y : ℕ) (bytes : List ℕ) → number_at w16 (x ∷ y ∷ bytes) 0 ≡ x + 256 * y
unfolding number_at
first_two x y bytes = omega arith

bytes_two : (x y format : ℕ) (bytes : List ℕ) (head : Head) → x < 256 → format < 256 → number_at w16 (x ∷ y ∷ bytes) 0 ≡ header format head → TwoBytes x y format head
bytes_two x y format bytes head lx lf e = two_bytes x y format head lx lf (sym (first_two x y bytes) ∙ e)

second_of : (x y : ℕ) (bytes : List ℕ) (p : Packet) → x < 256 → FieldsAgree (x ∷ y ∷ bytes) p → y ≡ head_byte (head_of p)
second_of x y bytes (packet.Kernel k) lx t = (bytes_two x y 2 bytes k.head lx (omega arith) t.header_is).second
second_of x y bytes (packet.Agent a) lx t = (bytes_two x y 4 bytes a.head lx (omega arith) t.header_is).second
second_of x y bytes (packet.And b) lx t = (bytes_two x y 3 bytes b.head lx (omega arith) t.header_is).second
second_of x y bytes (packet.Or b) lx t = (bytes_two x y 5 bytes b.head lx (omega arith) t.header_is).second

pub head_stands_second : HeadStandsSecond
head_stands_second [] p t = absurd (omega (arith, t.len))
head_stands_second (x ∷ []) p t = absurd (omega (arith, t.len))
head_stands_second (x ∷ y ∷ bytes) p t = second_of x y bytes p (t.are_bytes 0) t.fields

-- ---- another head

new_header : (x y format : ℕ) (bytes : List ℕ) (old head : Head) → x < 256 → format < 256 → number_at w16 (x ∷ y ∷ bytes) 0 ≡ header format old → number_at w16 (x ∷ head_byte head ∷ bytes) 0 ≡ header format head
new_header x y format bytes old head lx lf e =
    let two = bytes_two x y format bytes old lx lf e in
    first_two x (head_byte head) bytes ∙ (ap (λ n. n + 256 * head_byte head) two.first ∙ sym (header_is format head))

kernel_text : (x y : ℕ) (bytes : List ℕ) (k : Kernel) (head : Head) → x < 256 → KernelText (x ∷ y ∷ bytes) k → KernelText (x ∷ head_byte head ∷ bytes) (kernel_with_head k head)
unfolding number_at
kernel_text x y bytes k head lx t = record {
  header_is = new_header x y 2 bytes k.head head lx (omega arith) t.header_is;
  setup_is = t.setup_is;
  group_is = t.group_is;
  reserved_10 = t.reserved_10;
  grid_is = t.grid_is;
  private_is = t.private_is;
  group_size_is = t.group_size_is;
  object_is = t.object_is;
  kernarg_is = t.kernarg_is;
  reserved_48 = t.reserved_48;
  completion_is = t.completion_is;
}

agent_text : (x y : ℕ) (bytes : List ℕ) (a : AgentCall) (head : Head) → x < 256 → AgentText (x ∷ y ∷ bytes) a → AgentText (x ∷ head_byte head ∷ bytes) (record a { head = head })
unfolding number_at
agent_text x y bytes a head lx t = record {
  header_is = new_header x y 4 bytes a.head head lx (omega arith) t.header_is;
  kind_is = t.kind_is;
  reserved_4 = t.reserved_4;
  ret_is = t.ret_is;
  args_is = t.args_is;
  reserved_48 = t.reserved_48;
  completion_is = t.completion_is;
}

barrier_text : (x y format : ℕ) (bytes : List ℕ) (b : Barrier) (head : Head) → x < 256 → format < 256 → BarrierText format (x ∷ y ∷ bytes) b → BarrierText format (x ∷ head_byte head ∷ bytes) (record b { head = head })
unfolding number_at
barrier_text x y format bytes b head lx lf t = record {
  header_is = new_header x y format bytes b.head head lx lf t.header_is;
  reserved_2 = t.reserved_2;
  reserved_4 = t.reserved_4;
  deps_is = t.deps_is;
  reserved_48 = t.reserved_48;
  completion_is = t.completion_is;
}

fields_with : (x y : ℕ) (bytes : List ℕ) (p : Packet) (head : Head) → x < 256 → FieldsAgree (x ∷ y ∷ bytes) p → FieldsAgree (x ∷ head_byte head ∷ bytes) (with_head p head)
fields_with x y bytes (packet.Kernel k) head lx t = kernel_text x y bytes k head lx t
fields_with x y bytes (packet.Agent a) head lx t = agent_text x y bytes a head lx t
fields_with x y bytes (packet.And b) head lx t = barrier_text x y 3 bytes b head lx (omega arith) t
fields_with x y bytes (packet.Or b) head lx t = barrier_text x y 5 bytes b head lx (omega arith) t

still_bytes : (x y z : ℕ) (bytes : List ℕ) → z < 256 → ((i : ℕ) → slice_index (x ∷ y ∷ bytes) i < 256) → (i : ℕ) → slice_index (x ∷ z ∷ bytes) i < 256
still_bytes x y z bytes lz h zero = h 0
still_bytes x y z bytes lz h (suc zero) = lz
still_bytes x y z bytes lz h (suc (suc i)) = h (suc (suc i))

pub another_head : AnotherHead
another_head [] p head t = absurd (omega (arith, t.len))
another_head (x ∷ []) p head t = absurd (omega (arith, t.len))
another_head (x ∷ y ∷ bytes) p head t = record {
  len = t.len;
  are_bytes = still_bytes x y (head_byte head) bytes (omega (arith, byte_small head)) t.are_bytes;
  fields = fields_with x y bytes p head (t.are_bytes 0) t.fields;
}
