-- The forms of lines against the order of tests.
use Rattle.std.proofs.Common.{◌≡◌, ℕ, ◌-◌, ◌^◌, Bool, true, false, cond, List, [], ◌∷◌, Some, None, refl, sym, ap, subst, ◌∙◌, replicate}
use Rattle.std.specs.Prelude.{codes, Result, Ok}
use Rattle.std.specs.Str.{bytes_eq}
use Rattle.hq_lines.specs.declared.fault.LineFault.{LineFault}
use Rattle.hq_lines.specs.Meaning.{Meaning, Agent, Buffer, Args, Signal, Kernel, Queue, To, Packet, End}
use Rattle.hq_lines.specs.Says.{SpellsPacket, Says, agent, zeros, buffer, args, signal, kernel, queue, to, packets, ends}
use Rattle.hq_lines.specs.Order.{name_said, ranged, code_said, sized_said, some_said, short_said, size_said, extent_said, agent_said, to_said, zeros_of, filled_of, buffer_said, args_of, args_said, signal_of, signal_said, kernel_of, kernel_said, queue_of, queue_said, end_said, plain_said, packet_digits}
use Rattle.hq_text.proofs.InTurn.{steps, ok_is, word_is}
use Rattle.hq_lines.proofs.Parts.{name_ok, ranged_ok, code_ok, sized_ok, some_ok, short_ok, size_ok, extent_ok}

says_if : (words : List (List ℕ)) (m n : Meaning) → m ≡ n → Says words m → Says words n
says_if words m n e h = subst (λ (k : Meaning). Says words k) e h

agent_found : (others : List (List ℕ)) (m : Meaning) → agent_said others ≡ Ok m → Says (codes "agent" ∷ others) m
unfolding agent_said
agent_found [] m e = absurd cc
agent_found (name ∷ []) m e =
    let s = steps (name_said name) (λ n. Ok (Agent n)) m e in
    let n = name_ok name s.value s.first in
    says_if _ (Agent name) m (ap Agent n.1 ∙ ok_is _ m s.next) (agent name n.0)
agent_found (name ∷ x ∷ more) m e = absurd cc

to_found : (others : List (List ℕ)) (m : Meaning) → to_said others ≡ Ok m → Says (codes "to" ∷ others) m
unfolding to_said
to_found [] m e = absurd cc
to_found (name ∷ []) m e =
    let s = steps (name_said name) (λ n. Ok (To n)) m e in
    let n = name_ok name s.value s.first in
    says_if _ (To name) m (ap To n.1 ∙ ok_is _ m s.next) (to name n.0)
to_found (name ∷ x ∷ more) m e = absurd cc

zeros_found : (name addr len : List ℕ) (m : Meaning) → zeros_of name addr len ≡ Ok m → Says (codes "buffer" ∷ name ∷ addr ∷ len ∷ []) m
unfolding zeros_of
zeros_found name addr len m e =
    let s = steps (name_said name) _ m e in
    let x = steps (extent_said addr len) _ m s.next in
    let n = name_ok name s.value s.first in
    let r = extent_ok addr len x.value x.first in
    says_if _ (Buffer name x.value.0 (replicate x.value.1 0)) m (ap (λ k. Buffer k x.value.0 (replicate x.value.1 0)) n.1 ∙ ok_is _ m x.next)
    (zeros name addr len x.value.0 x.value.1 n.0 r.0 r.1)

filled_found : (name addr len digits : List ℕ) (m : Meaning) → filled_of name addr len digits ≡ Ok m → Says (codes "buffer" ∷ name ∷ addr ∷ len ∷ digits ∷ []) m
unfolding filled_of
filled_found name addr len digits m e =
    let s = steps (name_said name) _ m e in
    let x = steps (extent_said addr len) _ m s.next in
    let b = steps (sized_said x.value.1 digits) _ m x.next in
    let n = name_ok name s.value s.first in
    let r = extent_ok addr len x.value x.first in
    let d = sized_ok x.value.1 digits b.value b.first in
    says_if _ (Buffer name x.value.0 b.value) m (ap (λ k. Buffer k x.value.0 b.value) n.1 ∙ ok_is _ m b.next)
    (buffer name addr len digits x.value.0 x.value.1 b.value n.0 r.0 r.1 d.0 d.1)

buffer_found : (others : List (List ℕ)) (m : Meaning) → buffer_said others ≡ Ok m → Says (codes "buffer" ∷ others) m
unfolding buffer_said
buffer_found [] m e = absurd cc
buffer_found (name ∷ []) m e = absurd cc
buffer_found (name ∷ addr ∷ []) m e = absurd cc
buffer_found (name ∷ addr ∷ len ∷ []) m e = zeros_found name addr len m e
buffer_found (name ∷ addr ∷ len ∷ digits ∷ []) m e = filled_found name addr len digits m e
buffer_found (name ∷ addr ∷ len ∷ digits ∷ x ∷ more) m e = absurd cc

args_of_found : (name addr digits : List ℕ) (m : Meaning) → args_of name addr digits ≡ Ok m → Says (codes "args" ∷ name ∷ addr ∷ digits ∷ []) m
unfolding args_of
args_of_found name addr digits m e =
    let s = steps (name_said name) _ m e in
    let a = steps (ranged 1 (2 ^ 64 - 1) addr) _ m s.next in
    let b = steps (some_said digits) _ m a.next in
    let c = steps (short_said b.value) _ m b.next in
    let n = name_ok name s.value s.first in
    let d = some_ok digits b.value b.first in
    let t = short_ok b.value c.value c.first in
    says_if _ (Args name a.value b.value) m (ap (λ k. Args k a.value b.value) n.1 ∙ (ap (λ k. Args s.value a.value k) t.1 ∙ ok_is _ m c.next))
    (args name addr digits a.value b.value n.0 (ranged_ok 1 (2 ^ 64 - 1) addr a.value a.first) d.0 d.1 t.0)

args_found : (others : List (List ℕ)) (m : Meaning) → args_said others ≡ Ok m → Says (codes "args" ∷ others) m
unfolding args_said
args_found [] m e = absurd cc
args_found (name ∷ []) m e = absurd cc
args_found (name ∷ addr ∷ []) m e = absurd cc
args_found (name ∷ addr ∷ digits ∷ []) m e = args_of_found name addr digits m e
args_found (name ∷ addr ∷ digits ∷ x ∷ more) m e = absurd cc

signal_of_found : (name h t : List ℕ) (m : Meaning) → signal_of name h t ≡ Ok m → Says (codes "signal" ∷ name ∷ h ∷ t ∷ []) m
unfolding signal_of
signal_of_found name h t m e =
    let s = steps (name_said name) _ m e in
    let a = steps (ranged 1 (2 ^ 64 - 1) h) _ m s.next in
    let b = steps (ranged 0 (2 ^ 63 - 1) t) _ m a.next in
    let n = name_ok name s.value s.first in
    says_if _ (Signal name a.value b.value) m (ap (λ k. Signal k a.value b.value) n.1 ∙ ok_is _ m b.next)
    (signal name h t a.value b.value n.0 (ranged_ok 1 (2 ^ 64 - 1) h a.value a.first) (ranged_ok 0 (2 ^ 63 - 1) t b.value b.first))

signal_found : (others : List (List ℕ)) (m : Meaning) → signal_said others ≡ Ok m → Says (codes "signal" ∷ others) m
unfolding signal_said
signal_found [] m e = absurd cc
signal_found (name ∷ []) m e = absurd cc
signal_found (name ∷ h ∷ []) m e = absurd cc
signal_found (name ∷ h ∷ t ∷ []) m e = signal_of_found name h t m e
signal_found (name ∷ h ∷ t ∷ x ∷ more) m e = absurd cc

kernel_of_found : (name o c : List ℕ) (m : Meaning) → kernel_of name o c ≡ Ok m → Says (codes "kernel" ∷ name ∷ o ∷ c ∷ []) m
unfolding kernel_of
kernel_of_found name o c m e =
    let s = steps (name_said name) _ m e in
    let k = steps (code_said c) _ m s.next in
    let a = steps (ranged 1 (2 ^ 64 - 1) o) _ m k.next in
    let n = name_ok name s.value s.first in
    says_if _ (Kernel name a.value k.value) m (ap (λ i. Kernel i a.value k.value) n.1 ∙ ok_is _ m a.next)
    (kernel name o c a.value k.value n.0 (code_ok c k.value k.first) (ranged_ok 1 (2 ^ 64 - 1) o a.value a.first))

kernel_found : (others : List (List ℕ)) (m : Meaning) → kernel_said others ≡ Ok m → Says (codes "kernel" ∷ others) m
unfolding kernel_said
kernel_found [] m e = absurd cc
kernel_found (name ∷ []) m e = absurd cc
kernel_found (name ∷ o ∷ []) m e = absurd cc
kernel_found (name ∷ o ∷ c ∷ []) m e = kernel_of_found name o c m e
kernel_found (name ∷ o ∷ c ∷ x ∷ more) m e = absurd cc

queue_of_found : (name owner t : List ℕ) (m : Meaning) → queue_of name owner t ≡ Ok m → Says (codes "queue" ∷ name ∷ owner ∷ t ∷ []) m
unfolding queue_of
queue_of_found name owner t m e =
    let s = steps (name_said name) _ m e in
    let a = steps (name_said owner) _ m s.next in
    let b = steps (size_said t) _ m a.next in
    let n = name_ok name s.value s.first in
    let o = name_ok owner a.value a.first in
    let z = size_ok t b.value b.first in
    says_if _ (Queue name owner b.value) m (ap (λ i. Queue i owner b.value) n.1 ∙ (ap (λ i. Queue s.value i b.value) o.1 ∙ ok_is _ m b.next))
    (queue name owner t b.value n.0 o.0 z.0 z.1)

queue_found : (others : List (List ℕ)) (m : Meaning) → queue_said others ≡ Ok m → Says (codes "queue" ∷ others) m
unfolding queue_said
queue_found [] m e = absurd cc
queue_found (name ∷ []) m e = absurd cc
queue_found (name ∷ o ∷ []) m e = absurd cc
queue_found (name ∷ o ∷ t ∷ []) m e = queue_of_found name o t m e
queue_found (name ∷ o ∷ t ∷ x ∷ more) m e = absurd cc

end_found : (others : List (List ℕ)) (m : Meaning) → end_said others ≡ Ok m → Says (codes "end" ∷ others) m
unfolding end_said
end_found [] m e = says_if _ End m (ok_is End m e) ends
end_found (x ∷ more) m e = absurd cc

-- by the first word
form_step : (first word : List ℕ) (others : List (List ℕ)) (m : Meaning) (said rest : Result Meaning LineFault) → (said ≡ Ok m → Says (word ∷ others) m) → (rest ≡ Ok m → Says (first ∷ others) m) → cond (bytes_eq first word) said rest ≡ Ok m → Says (first ∷ others) m
form_step first word others m said rest this more e = by (bytes_eq first word) refl e where
  by : (b : Bool) → bytes_eq first word ≡ b → cond b said rest ≡ Ok m → Says (first ∷ others) m
  by true is e = subst (λ (w : List ℕ). Says (w ∷ others) m) (sym (word_is first word is)) (this e)
  by false is e = more e

pub plain_ok : (words : List (List ℕ)) (m : Meaning) → plain_said words ≡ Ok m → Says words m
unfolding plain_said
plain_ok [] m e = absurd cc
plain_ok (first ∷ others) m e =
    form_step first (codes "agent") others m (agent_said others) _ (agent_found others m)
    (form_step first (codes "buffer") others m (buffer_said others) _ (buffer_found others m)
    (form_step first (codes "args") others m (args_said others) _ (args_found others m)
    (form_step first (codes "signal") others m (signal_said others) _ (signal_found others m)
    (form_step first (codes "kernel") others m (kernel_said others) _ (kernel_found others m)
    (form_step first (codes "queue") others m (queue_said others) _ (queue_found others m)
    (form_step first (codes "to") others m (to_said others) _ (to_found others m)
    (form_step first (codes "end") others m (end_said others) _ (end_found others m) (λ h. absurd cc))))))))
    e

pub packet_ok : (words : List (List ℕ)) (digits : List ℕ) (m : Meaning) → packet_digits words ≡ Some digits → SpellsPacket digits m → Says words m
unfolding packet_digits
packet_ok [] digits m e h = absurd cc
packet_ok (first ∷ []) digits m e h = absurd cc
packet_ok (first ∷ word ∷ []) digits m e h = by (bytes_eq first (codes "packet")) refl e where
  by : (b : Bool) → bytes_eq first (codes "packet") ≡ b → cond b (Some word) None ≡ Some digits → Says (first ∷ word ∷ []) m
  by true is e =
      let same : digits ≡ word = cc in
      let this = says_if (codes "packet" ∷ digits ∷ []) (Packet h.sent) m (sym h.is) (packets digits h.bytes h.sent h.len h.spelled h.text) in
      subst (λ (w : List ℕ). Says (w ∷ word ∷ []) m) (sym (word_is first (codes "packet") is)) (subst (λ (d : List ℕ). Says (codes "packet" ∷ d ∷ []) m) same this)
  by false is e = absurd cc
packet_ok (first ∷ word ∷ x ∷ more) digits m e h = absurd cc
