-- Words have one meaning or a first fault, and not both.
use Rattle.std.proofs.Common.{◌≡◌, ℕ, List, Option, Some, None, refl, sym, ap, subst, ◌∙◌, inl, inr}
use Rattle.std.specs.Prelude.{Result, Ok, Err, ◌⊎◌, IfOk, IfErr, MatchResult}
use Rattle.hex.specs.declared.error.FromHexError.{FromHexError}
use Rattle.hex.proofs.HexLemmas.{decode_sized-twice}
use Rattle.hq_packet.specs.PacketText.{PacketText}
use Rattle.hq_packet.proofs.Packets.{one_packet, no_fault}
use Rattle.hq_text.specs.Lines.{words_of}
use Rattle.hq_lines.specs.declared.fault.LineFault.{LineFault}
use Rattle.hq_lines.specs.declared.fault.LineFault.TheVariants as fault
use Rattle.hq_lines.specs.Gives.{Gives, Fails}
use Rattle.hq_lines.specs.Meaning.{Meaning, Packet}
use Rattle.hq_lines.specs.Says.{SpellsPacket, Says, SaysLine, agent, zeros, buffer, args, signal, kernel, queue, to, packets, ends}
use Rattle.hq_lines.specs.Order.{agent_said, to_said, zeros_of, filled_of, buffer_said, args_of, args_said, signal_of, signal_said, kernel_of, kernel_said, queue_of, queue_said, end_said, plain_said, packet_digits, digits_fault, fault_by, words_fault, line_fault, packet_fault}
use Rattle.hq_text.proofs.InTurn.{ok_is}
use Rattle.hq_lines.proofs.Parts.{name_is, ranged_is, code_is, sized_is, some_is, short_is, size_is, extent_is}
use Rattle.hq_lines.proofs.Forms.{plain_ok, packet_ok}

-- the meaning, by the order of tests
abbrev AsSaid : Option (List ℕ) → List (List ℕ) → Meaning → Type 0
AsSaid None words m = plain_said words ≡ Ok m
AsSaid (Some digits) words m = SpellsPacket digits m

as_said : (words : List (List ℕ)) (m : Meaning) → Says words m → AsSaid (packet_digits words) words m
unfolding packet_digits plain_said agent_said buffer_said args_said signal_said kernel_said queue_said to_said end_said zeros_of filled_of args_of signal_of kernel_of queue_of
as_said words m (agent name n) = rw (name_is name n) refl
as_said words m (zeros name addr len at c n a l) = rw (name_is name n, extent_is addr len at c a l) refl
as_said words m (buffer name addr len digits at c bytes n a l two d) = rw (name_is name n, extent_is addr len at c a l, sized_is c digits bytes two d) refl
as_said words m (args name addr digits at bytes n a d some short) = rw (name_is name n, ranged_is _ _ addr at a, some_is digits bytes d some, short_is bytes short) refl
as_said words m (signal name h s handle start n a b) = rw (name_is name n, ranged_is _ _ h handle a, ranged_is _ _ s start b) refl
as_said words m (kernel name o c object kind n k a) = rw (name_is name n, code_is c kind k, ranged_is _ _ o object a) refl
as_said words m (queue name owner s size n o a p) = rw (name_is name n, name_is owner o, size_is s size a p) refl
as_said words m (to name n) = rw (name_is name n) refl
as_said words m (packets digits bytes p len spelled text) = record { bytes = bytes; sent = p; len = len; spelled = spelled; text = text; is = refl }
as_said words m ends = refl

one_said : (d : Option (List ℕ)) (words : List (List ℕ)) (m n : Meaning) → AsSaid d words m → AsSaid d words n → m ≡ n
one_said None words m n h k = ok_is m n (sym h ∙ k)
one_said (Some digits) words m n h k =
    let same : h.bytes ≡ k.bytes = bytes_same (sym h.spelled ∙ k.spelled) in
    h.is ∙ (ap Packet (one_packet k.bytes h.sent k.sent (subst (λ (b : List ℕ). PacketText b h.sent) same h.text) k.text) ∙ sym k.is) where
      bytes_same : {a b : List ℕ} → (let x : Result (List ℕ) FromHexError = Ok a in let y : Result (List ℕ) FromHexError = Ok b in x ≡ y) → a ≡ b
      bytes_same e = cc

-- words have one meaning at most
pub one_meaning : (words : List (List ℕ)) (m n : Meaning) → Says words m → Says words n → m ≡ n
one_meaning words m n h k = one_said (packet_digits words) words m n (as_said words m h) (as_said words n k)

packet_no_fault : (digits : List ℕ) (m : Meaning) → SpellsPacket digits m → digits_fault digits ≡ None
unfolding digits_fault
packet_no_fault digits m h =
    rw (decode_sized-twice digits 64 h.len ∙ h.spelled) (ap packet_fault (no_fault h.bytes h.sent h.text))

said_no_fault : (d : Option (List ℕ)) (words : List (List ℕ)) (m : Meaning) → AsSaid d words m → fault_by d words ≡ None
said_no_fault None words m h = rw h refl
said_no_fault (Some digits) words m h = packet_no_fault digits m h

-- words with a meaning have no fault
pub no_words_fault : (words : List (List ℕ)) (m : Meaning) → Says words m → words_fault words ≡ None
no_words_fault words m h = said_no_fault (packet_digits words) words m (as_said words m h)

pub no_line_fault : (line : List ℕ) (m : Meaning) → SaysLine line m → line_fault line ≡ None
no_line_fault line m h = rw h.in_range (no_words_fault (words_of line) m h.words)

-- what the code learns
pub found_packet : {X : Type 0} (v : X → Meaning) (r : Result X LineFault) (Q : LineFault → Type 0) (words : List (List ℕ)) (digits : List ℕ) → Some digits ≡ packet_digits words → MatchResult r (λ l. SpellsPacket digits (v l)) Q → IfOk r (λ l. Says words (v l))
found_packet v (Ok l) Q words digits is h = packet_ok words digits (v l) (sym is) h
found_packet v (Err e) Q words digits is h = tt

pub found_plain : {X : Type 0} (v : X → Meaning) (r : Result X LineFault) (words : List (List ℕ)) → Gives v r (plain_said words) → IfOk r (λ l. Says words (v l))
found_plain v (Ok l) words h = plain_ok words (v l) h
found_plain v (Err e) words h = tt

memory_fails : {Y : Type 0} (e : LineFault) (read : Result Y LineFault) → e ≡ fault.Memory → Fails e read
memory_fails e read is = subst (λ (f : LineFault). Fails f read) (sym is) tt

pub only_line : {X : Type 0} (v : X → Meaning) (r : Result X LineFault) (line : List ℕ) (m : Meaning) → IfOk r (λ l. SaysLine line (v l)) → IfErr r (λ e. (e ≡ fault.Memory) ⊎ (line_fault line ≡ Some e)) → SaysLine line m → Gives v r (Ok m)
only_line v (Ok l) line m found faulty h = ap (λ k. Ok k) (one_meaning (words_of line) m (v l) h.words found.words)
only_line v (Err e) line m found faulty h = by faulty where
  by : (e ≡ fault.Memory) ⊎ (line_fault line ≡ Some e) → Fails e (Ok m)
  by (inl is) = memory_fails e (Ok m) is
  by (inr is) = let none = no_line_fault line m h in absurd cc
