-- Words say the fields of one packet, and `pack` has one report of them.
use Rattle.std.proofs.Common.{◌≡◌, ℕ, zero, suc, ◌+◌, ◌⊎◌, inl, inr, Bool, true, false, List, [], ◌∷◌, length, slice_index, Option, Some, None, refl, sym, ap, subst, ◌∙◌, arith}
use Rattle.hex.specs.Hex.{encode_lower}
use Rattle.hq_packet.specs.declared.fault.PacketFault.{PacketFault}
use Rattle.hq_packet.specs.declared.packet.AgentCall.{AgentCall}
use Rattle.hq_packet.specs.declared.packet.Barrier.{Barrier}
use Rattle.hq_packet.specs.declared.packet.Head.{Head}
use Rattle.hq_packet.specs.declared.packet.KernelFields.{KernelFields}
use Rattle.hq_packet.specs.declared.packet.Packet.{Packet}
use Rattle.hq_packet.specs.declared.packet.Packet.TheVariants as packet
use Rattle.hq_packet.specs.declared.packet.Scope.{Scope}
use Rattle.hq_packet.specs.declared.packet.Scope.TheVariants as scope
use Rattle.hq_packet.specs.PacketText.{PacketText}
use Rattle.hq_packet.proofs.Dispatches.{one_dispatch, faultless_fields}
use Rattle.hq_packet.proofs.Packets.{one_text}
use Rattle.hq_report.specs.Shown.{scope_word}
use Rattle.hq_report.specs.Texts.{packet_refusal}
use Rattle.hq_showing.specs.Pack.{word_at, number_in, numbers_in, with_first, bit_word, HeadWords, KernelWords, AgentWords, BarrierWords, Say, fields_in, fields_fault}
use Rattle.hq_showing.specs.Packing.{FieldsReport, OneReport}
use Rattle.hq_showing.specs.Packing.FieldsReport.{spells, refused, no_memory}
use Rattle.hq_showing.specs.Packing.PackReport.{packs, no_fields}
use Rattle.hq_status.specs.Reports.{with_feed}
use Rattle.hq_showing.specs.declared.fields.Fields.{Fields}
use Rattle.hq_showing.specs.declared.fields.Fields.TheVariants.{Kernel, Agent, And, Or}
use Rattle.hq_status.specs.declared.status.Status.{Status}
use Rattle.hq_status.specs.declared.status.Status.TheVariants.{Memory, PacketRefused}

some_one : {A : Type 0} (o : Option A) (x y : A) → o ≡ Some x → o ≡ Some y → x ≡ y
some_one o x y e f = cc

-- ---- one head

bit_one : (a b : Bool) → slice_index (bit_word a) 0 ≡ slice_index (bit_word b) 0 → a ≡ b
bit_one true true e = refl
bit_one true false e = absurd (omega arith)
bit_one false true e = absurd (omega arith)
bit_one false false e = refl

scope_one : (a b : Scope) → slice_index (scope_word a) 0 ≡ slice_index (scope_word b) 0 → a ≡ b
scope_one scope.None scope.None e = refl
scope_one scope.None scope.Agent e = absurd (omega arith)
scope_one scope.None scope.System e = absurd (omega arith)
scope_one scope.Agent scope.None e = absurd (omega arith)
scope_one scope.Agent scope.Agent e = refl
scope_one scope.Agent scope.System e = absurd (omega arith)
scope_one scope.System scope.None e = absurd (omega arith)
scope_one scope.System scope.Agent e = absurd (omega arith)
scope_one scope.System scope.System e = refl

same_letter : (word v w : List ℕ) → word ≡ v → word ≡ w → slice_index v 0 ≡ slice_index w 0
same_letter word v w e f = ap (λ (x : List ℕ). slice_index x 0) (sym e ∙ f)

abbrev head : Bool → Scope → Scope → Head
head b a r = record { barrier = b; acquire = a; release = r }

heads_same : (b c : Bool) (a d r s : Scope) → b ≡ c → a ≡ d → r ≡ s → head b a r ≡ head c d s
heads_same b c a d r s e f g = cc

head_one : (kind other : List ℕ) (words : List (List ℕ)) (h j : Head) → HeadWords kind words h → HeadWords other words j → h ≡ j
head_one kind other words h j t u = heads_same h.barrier j.barrier h.acquire j.acquire h.release j.release
    (bit_one h.barrier j.barrier (same_letter (word_at words 1) _ _ t.bit_is u.bit_is))
    (scope_one h.acquire j.acquire (same_letter (word_at words 2) _ _ t.acquire_is u.acquire_is))
    (scope_one h.release j.release (same_letter (word_at words 3) _ _ t.release_is u.release_is))

-- ---- the same fields

abbrev dispatch : Head → ℕ → List ℕ → List ℕ → ℕ → ℕ → ℕ → ℕ → ℕ → KernelFields
dispatch h d g r a b c e f = record { head = h; dimensions = d; group = g; grid = r; private_size = a; group_size = b; object = c; kernarg = e; completion = f }

dispatches_same : (a0 b0 : Head) (a1 b1 : ℕ) (a2 b2 a3 b3 : List ℕ) (a4 b4 a5 b5 a6 b6 a7 b7 a8 b8 : ℕ) → a0 ≡ b0 → a1 ≡ b1 → a2 ≡ b2 → a3 ≡ b3 → a4 ≡ b4 → a5 ≡ b5 → a6 ≡ b6 → a7 ≡ b7 → a8 ≡ b8
    → dispatch a0 a1 a2 a3 a4 a5 a6 a7 a8 ≡ dispatch b0 b1 b2 b3 b4 b5 b6 b7 b8
dispatches_same a0 b0 a1 b1 a2 b2 a3 b3 a4 b4 a5 b5 a6 b6 a7 b7 a8 b8 e0 e1 e2 e3 e4 e5 e6 e7 e8 = cc

kernel_one : (words : List (List ℕ)) (f g : KernelFields) → KernelWords words f → KernelWords words g → f ≡ g
kernel_one words f g t u = dispatches_same f.head g.head f.dimensions g.dimensions f.group g.group f.grid g.grid f.private_size g.private_size f.group_size g.group_size f.object g.object f.kernarg g.kernarg f.completion g.completion
    (head_one _ _ words f.head g.head t.head_is u.head_is) (some_one _ _ _ t.setup_is u.setup_is) (some_one _ _ _ t.group_is u.group_is) (some_one _ _ _ t.grid_is u.grid_is) (some_one _ _ _ t.private_is u.private_is)
    (some_one _ _ _ t.group_size_is u.group_size_is) (some_one _ _ _ t.object_is u.object_is) (some_one _ _ _ t.kernarg_is u.kernarg_is) (some_one _ _ _ t.completion_is u.completion_is)

abbrev call : Head → ℕ → ℕ → List ℕ → ℕ → AgentCall
call h k r a c = record { head = h; kind = k; ret = r; args = a; completion = c }

calls_same : (h j : Head) (k l r s : ℕ) (a b : List ℕ) (c d : ℕ) → h ≡ j → k ≡ l → r ≡ s → a ≡ b → c ≡ d → call h k r a c ≡ call j l s b d
calls_same h j k l r s a b c d e0 e1 e2 e3 e4 = cc

call_one : (words : List (List ℕ)) (a b : AgentCall) → AgentWords words a → AgentWords words b → a ≡ b
call_one words a b t u = calls_same a.head b.head a.kind b.kind a.ret b.ret a.args b.args a.completion b.completion
    (head_one _ _ words a.head b.head t.head_is u.head_is) (some_one _ _ _ t.kind_is u.kind_is) (some_one _ _ _ t.ret_is u.ret_is) (some_one _ _ _ t.args_is u.args_is) (some_one _ _ _ t.completion_is u.completion_is)

abbrev barrier : Head → List ℕ → ℕ → Barrier
barrier h d c = record { head = h; deps = d; completion = c }

barriers_same : (h j : Head) (a b : List ℕ) (c d : ℕ) → h ≡ j → a ≡ b → c ≡ d → barrier h a c ≡ barrier j b d
barriers_same h j a b c d e0 e1 e2 = cc

barrier_one : (kind : List ℕ) (words : List (List ℕ)) (a b : Barrier) → BarrierWords kind words a → BarrierWords kind words b → a ≡ b
barrier_one kind words a b t u = barriers_same a.head b.head a.deps b.deps a.completion b.completion
    (head_one _ _ words a.head b.head t.head_is u.head_is) (some_one _ _ _ t.deps_is u.deps_is) (some_one _ _ _ t.completion_is u.completion_is)

-- the second letter of the kind's word
abbrev kind_letter : Fields → ℕ
kind_letter (Kernel f) = 101
kind_letter (Agent a) = 103
kind_letter (And b) = 110
kind_letter (Or b) = 114

letter_is : (words : List (List ℕ)) (f : Fields) → Say words f → slice_index (word_at words 0) 1 ≡ kind_letter f
letter_is words (Kernel f) t = ap (λ (x : List ℕ). slice_index x 1) t.head_is.kind_is
letter_is words (Agent a) t = ap (λ (x : List ℕ). slice_index x 1) t.head_is.kind_is
letter_is words (And b) t = ap (λ (x : List ℕ). slice_index x 1) t.head_is.kind_is
letter_is words (Or b) t = ap (λ (x : List ℕ). slice_index x 1) t.head_is.kind_is

same_by_cases : (words : List (List ℕ)) (f g : Fields) → kind_letter f ≡ kind_letter g → Say words f → Say words g → f ≡ g
same_by_cases words (Kernel f) (Kernel g) e t u = ap (λ (x : KernelFields). Kernel x) (kernel_one words f g t u)
same_by_cases words (Agent a) (Agent b) e t u = ap (λ (x : AgentCall). Agent x) (call_one words a b t u)
same_by_cases words (And a) (And b) e t u = ap (λ (x : Barrier). And x) (barrier_one _ words a b t u)
same_by_cases words (Or a) (Or b) e t u = ap (λ (x : Barrier). Or x) (barrier_one _ words a b t u)
same_by_cases words (Kernel f) g e t u = absurd (omega arith)
same_by_cases words (Agent a) g e t u = absurd (omega arith)
same_by_cases words (And a) g e t u = absurd (omega arith)
same_by_cases words (Or a) g e t u = absurd (omega arith)

say_one : (words : List (List ℕ)) (f g : Fields) → Say words f → Say words g → f ≡ g
say_one words f g t u = same_by_cases words f g (sym (letter_is words f t) ∙ letter_is words g u) t u

-- ---- a packet's fields

packet_one : (p q : Packet) → fields_in p ≡ fields_in q → p ≡ q
packet_one (packet.Kernel k) (packet.Kernel j) e = ap (λ x. packet.Kernel x) (one_dispatch k j (cc))
packet_one (packet.Agent a) (packet.Agent b) e = cc
packet_one (packet.And a) (packet.And b) e = cc
packet_one (packet.Or a) (packet.Or b) e = cc
packet_one (packet.Kernel k) q e = absurd (cc)
packet_one (packet.Agent a) q e = absurd (cc)
packet_one (packet.And a) q e = absurd (cc)
packet_one (packet.Or a) q e = absurd (cc)

with_first_len : (n : Option ℕ) (rest : Option (List ℕ)) (count : ℕ) (ns : List ℕ) → ((ms : List ℕ) → rest ≡ Some ms → length ms ≡ count) → with_first n rest ≡ Some ns → length ns ≡ suc count
with_first_len None rest count ns next e = absurd (cc)
with_first_len (Some n) None count ns next e = absurd (cc)
with_first_len (Some n) (Some ms) count ns next e =
    let is : (n ∷ ms) ≡ ns = cc in
    let len : length ms ≡ count = next ms refl in
    subst (λ (xs : List ℕ). length xs ≡ suc count) is (omega (arith, len))

numbers_len : (count bits : ℕ) (words : List (List ℕ)) (place : ℕ) (ns : List ℕ) → numbers_in count bits words place ≡ Some ns → length ns ≡ count
numbers_len zero bits words place ns e = let is : [] ≡ ns = cc in subst (λ (xs : List ℕ). length xs ≡ 0) is refl
numbers_len (suc count) bits words place ns e = with_first_len (number_in bits words place) (numbers_in count bits words (place + 1)) count ns (numbers_len count bits words (place + 1)) e

no_fault : (words : List (List ℕ)) (p : Packet) → Say words (fields_in p) → fields_fault (fields_in p) ≡ None
no_fault words (packet.Kernel k) t = faultless_fields k (numbers_len 3 16 words 5 k.group t.group_is) (numbers_len 3 32 words 8 k.grid t.grid_is)
no_fault words (packet.Agent a) t = refl
no_fault words (packet.And b) t = refl
no_fault words (packet.Or b) t = refl

not_both : (words : List (List ℕ)) (fields : Fields) (p : Packet) (fault : PacketFault) → Say words fields → fields_in p ≡ fields → fields_fault fields ≡ Some fault → ⊥
not_both words fields p fault t e f =
    let none = no_fault words p (subst (Say words) (sym e) t) in
    let same = ap fields_fault e in
    absurd (cc)

-- ---- one report

abbrev Same : List ℕ → List ℕ → Status → Status → Type 0
Same out other status answered = ((out ≡ other) × (status ≡ answered)) ⊎ ((status ≡ Memory) ⊎ (answered ≡ Memory))

fields_report : (words : List (List ℕ)) (fields : Fields) (out other : List ℕ) (status answered : Status) → Say words fields → FieldsReport fields out status → FieldsReport fields other answered → Same out other status answered
fields_report words fields out other status answered t (spells p bytes e text) (spells q more f also) =
    let same = packet_one p q (e ∙ sym f) in
    let bytes_same = one_text bytes more q (subst (PacketText bytes) same text) also in
    inl (ap (λ (bs : List ℕ). with_feed (encode_lower bs)) bytes_same, refl)
fields_report words fields out other status answered t (spells p bytes e text) (refused fault f) = absurd (not_both words fields p fault t e f)
fields_report words fields out other status answered t (refused fault f) (spells p bytes e text) = absurd (not_both words fields p fault t e f)
fields_report words fields out other status answered t (refused fault f) (refused second g) =
    let one : fault ≡ second = some_one _ _ _ f g in
    inl (ap (λ (x : PacketFault). with_feed (packet_refusal x)) one, ap (λ (x : PacketFault). PacketRefused x) one)
fields_report words fields out other status answered t no_memory report = inr (inl refl)
fields_report words fields out other status answered t report no_memory = inr (inr refl)

pub one_report : OneReport
one_report words out other status answered (packs f t report) (packs g u second) = fields_report words g out other status answered u (subst (λ (x : Fields). FieldsReport x out status) (say_one words f g t u) report) second
one_report words out other status answered (packs f t report) (no_fields none) = absurd (none f t)
one_report words out other status answered (no_fields none) (packs g u second) = absurd (none g u)
one_report words out other status answered (no_fields none) (no_fields also) = inl (refl, refl)
