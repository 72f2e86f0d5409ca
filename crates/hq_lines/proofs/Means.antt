-- What each fault of a line means.
use Rattle.std.proofs.Common.{◌≡◌, ℕ, ◌⊎◌, inl, inr, Bool, true, false, cond, List, [], ◌∷◌, length, refl, sym, ap, subst, ◌∙◌}
use Rattle.std.specs.Prelude.{Option, Some, None, Result, Ok, Err, codes}
use Rattle.std.specs.List.{list_any}
use Rattle.std.proofs.lemmas.List.Folds.{Any-from_list_any, list_any-from_Any}
use Rattle.hq_packet.specs.Faults.{first_fault}
use Rattle.hq_packet.specs.declared.fault.PacketFault.{PacketFault}
use Rattle.hq_text.specs.Lines.{words_of}
use Rattle.hq_text.specs.Names.{IsName}
use Rattle.hq_lines.specs.declared.fault.LineFault.{LineFault}
use Rattle.hq_lines.specs.declared.fault.LineFault.TheVariants as fault
use Rattle.hq_lines.specs.Bytes.{is_outside}
use Rattle.hq_lines.specs.Order.{line_fault, words_fault, packet_digits, plain_said, queue_said, queue_of, size_said, is_power, fault_in}
use Rattle.hq_lines.specs.Says.{IsWithin, IsPower, Spells}
use Rattle.hq_lines.specs.LineForms.{Places, whole, HasForm, agent, zeros, buffer, args, signal, kernel, queue, to, packets, ends, NumbersAreRight, DigitsAreRight, HasOutside, HasNoForm, HasWrongNumber, HasWrongDigits, HasRefusedPacket, HasWrongSize, ByteMeans, WordMeans, NumberMeans, HexMeans, PacketMeans, QueueSizeMeans}
use Rattle.hq_lines.proofs.Classes.{Class, class, form_of, form_is}
use Rattle.hq_lines.proofs.Judged.{Judged, bad_number, bad_digits, bad_size, too_long, bad_packet, fine}
use Rattle.hq_lines.proofs.Pairs.{refused}
use Rattle.hq_lines.proofs.Parts.{name_is, ranged_is, power_found, exponents}
use Rattle.hq_lines.specs.Meaning.{Queue}
use Rattle.hq_text.specs.InTurn.{◌>>=◌}

-- ---- bytes

pub has_outside : (line : List ℕ) → list_any is_outside line ≡ true → HasOutside line
has_outside = Any-from_list_any is_outside

pub outside_has : (line : List ℕ) → HasOutside line → list_any is_outside line ≡ true
outside_has = list_any-from_Any is_outside

-- the first test is that of the bytes
abbrev Tested : List ℕ → Option LineFault → Type 0
Tested line f = (HasOutside line × (f ≡ Some fault.Byte)) ⊎ ((¬ HasOutside line) × (f ≡ words_fault (words_of line)))

tested : (line : List ℕ) → Tested line (line_fault line)
tested line = by (list_any is_outside line) refl where
  by : (b : Bool) → list_any is_outside line ≡ b → Tested line (cond b (Some fault.Byte) (words_fault (words_of line)))
  by true is = inl (has_outside line is, refl)
  by false is = inr ((λ h. (let both : true ≡ false = sym (outside_has line h) ∙ is in cc)), refl)

-- ---- words

-- a fault of words is what their form says of them
abbrev OfWords : List (List ℕ) → LineFault → Type 0
OfWords words f = (((p : Places) → ¬ HasForm words p) × (f ≡ fault.Word)) ⊎ ((p : Places) × HasForm words p × Judged p (Some f))

some_is : {A : Type 0} (a b : A) → Some a ≡ Some b → a ≡ b
some_is a b e = cc

none_some : {A : Type 0} (a : A) → None ≡ Some a → ⊥
none_some a e = cc

of_words : (words : List (List ℕ)) (f : LineFault) → words_fault words ≡ Some f → OfWords words f
of_words words f e = by (form_of words) refl (class words) where
  by : (o : Option Places) → form_of words ≡ o → Class words o (words_fault words) → OfWords words f
  by None is c = inl ((λ p h. none_some p (sym is ∙ form_is words p h)), some_is f fault.Word (sym e ∙ c))
  by (Some p) is c = inr (p, c.0, subst (λ (x : Option LineFault). Judged p x) e c.1)

-- words of a form are judged by it
judged : (words : List (List ℕ)) (p : Places) → HasForm words p → Judged p (words_fault words)
judged words p h = (subst (λ (o : Option Places). Class words o (words_fault words)) (form_is words p h) (class words)).1

no_byte : (words : List (List ℕ)) → ¬ (words_fault words ≡ Some fault.Byte)
no_byte words e = by (of_words words fault.Byte e) where
  by : OfWords words fault.Byte → ⊥
  by (inl (none, is)) = cc
  by (inr (p, h, bad_number a is)) = cc
  by (inr (p, h, bad_digits a b is)) = cc
  by (inr (p, h, bad_size a b c d k m n is)) = cc
  by (inr (p, h, too_long a b is)) = cc
  by (inr (p, h, bad_packet a b c d g k l m n is)) = cc
  by (inr (p, h, fine a b is)) = cc

-- ---- a line's first fault

-- the fault of a line that isn't of its bytes is that of its words
abbrev Behind : List ℕ → LineFault → Type 0
Behind line f = (¬ HasOutside line) × (words_fault (words_of line) ≡ Some f)

behind : (line : List ℕ) (f : LineFault) → ¬ (f ≡ fault.Byte) → line_fault line ≡ Some f → Behind line f
behind line f other e = by (tested line) where
  by : Tested line (line_fault line) → Behind line f
  by (inl (h, is)) = absurd (other (some_is f fault.Byte (sym e ∙ is)))
  by (inr (none, is)) = (none, sym is ∙ e)

from_words : (line : List ℕ) (f : LineFault) → Behind line f → line_fault line ≡ Some f
from_words line f b = by (tested line) where
  by : Tested line (line_fault line) → line_fault line ≡ Some f
  by (inl (h, is)) = absurd (b.0 h)
  by (inr (none, is)) = is ∙ b.1

pub byte_means : ByteMeans
byte_means line = (there, back) where
  there : line_fault line ≡ Some fault.Byte → HasOutside line
  there e = by (tested line) where
    by : Tested line (line_fault line) → HasOutside line
    by (inl (h, is)) = h
    by (inr (none, is)) = absurd (no_byte (words_of line) (sym is ∙ e))

  back : HasOutside line → line_fault line ≡ Some fault.Byte
  back h = by (tested line) where
    by : Tested line (line_fault line) → line_fault line ≡ Some fault.Byte
    by (inl (here, is)) = is
    by (inr (none, is)) = absurd (none h)

pub word_means : WordMeans
word_means line = (there, back) where
  formless : OfWords (words_of line) fault.Word → (p : Places) → ¬ HasForm (words_of line) p
  formless (inl (none, is)) = none
  formless (inr (p, h, bad_number a is)) = absurd cc
  formless (inr (p, h, bad_digits a b is)) = absurd cc
  formless (inr (p, h, bad_size a b c d k m n is)) = absurd cc
  formless (inr (p, h, too_long a b is)) = absurd cc
  formless (inr (p, h, bad_packet a b c d g k l m n is)) = absurd cc
  formless (inr (p, h, fine a b is)) = absurd cc

  there : line_fault line ≡ Some fault.Word → HasNoForm line
  there e = let b = behind line fault.Word (λ is. cc) e in record { in_range = b.0; formless = formless (of_words (words_of line) fault.Word b.1) }

  by : (words : List (List ℕ)) → ((p : Places) → ¬ HasForm words p) → (o : Option Places) → Class words o (words_fault words) → words_fault words ≡ Some fault.Word
  by words none None c = c
  by words none (Some p) c = absurd (none p c.0)

  back : HasNoForm line → line_fault line ≡ Some fault.Word
  back h = from_words line fault.Word (h.in_range, by (words_of line) h.formless (form_of (words_of line)) (class (words_of line)))

pub number_means : NumberMeans
number_means line = (there, back) where
  wrong : ¬ HasOutside line → OfWords (words_of line) fault.Number → HasWrongNumber line
  wrong range (inl (none, is)) = absurd cc
  wrong range (inr (p, h, bad_number a is)) = record { in_range = range; places = p; form = h; wrong = a }
  wrong range (inr (p, h, bad_digits a b is)) = absurd cc
  wrong range (inr (p, h, bad_size a b c d k m n is)) = absurd cc
  wrong range (inr (p, h, too_long a b is)) = absurd cc
  wrong range (inr (p, h, bad_packet a b c d g k l m n is)) = absurd cc
  wrong range (inr (p, h, fine a b is)) = absurd cc

  there : line_fault line ≡ Some fault.Number → HasWrongNumber line
  there e = let b = behind line fault.Number (λ is. cc) e in wrong b.0 (of_words (words_of line) fault.Number b.1)

  by : (p : Places) (f : Option LineFault) → ¬ NumbersAreRight p → Judged p f → f ≡ Some fault.Number
  by p f not_all (bad_number a is) = is
  by p f not_all (bad_digits a b is) = absurd (not_all a)
  by p f not_all (bad_size a b c d k m n is) = absurd (not_all a)
  by p f not_all (too_long a b is) = absurd (not_all a)
  by p f not_all (bad_packet a b c d g k l m n is) = absurd (not_all a)
  by p f not_all (fine a b is) = absurd (not_all a)

  back : HasWrongNumber line → line_fault line ≡ Some fault.Number
  back h = from_words line fault.Number (h.in_range, by h.places (words_fault (words_of line)) h.wrong (judged (words_of line) h.places h.form))

pub hex_means : HexMeans
hex_means line = (there, back) where
  wrong : ¬ HasOutside line → OfWords (words_of line) fault.Hex → HasWrongDigits line
  wrong range (inl (none, is)) = absurd cc
  wrong range (inr (p, h, bad_number a is)) = absurd cc
  wrong range (inr (p, h, bad_digits a b is)) = record { in_range = range; places = p; form = h; numbers = a; wrong = b }
  wrong range (inr (p, h, bad_size a b c d k m n is)) = absurd cc
  wrong range (inr (p, h, too_long a b is)) = absurd cc
  wrong range (inr (p, h, bad_packet a b c d g k l m n is)) = absurd cc
  wrong range (inr (p, h, fine a b is)) = absurd cc

  there : line_fault line ≡ Some fault.Hex → HasWrongDigits line
  there e = let b = behind line fault.Hex (λ is. cc) e in wrong b.0 (of_words (words_of line) fault.Hex b.1)

  by : (p : Places) (f : Option LineFault) → NumbersAreRight p → ¬ DigitsAreRight p → Judged p f → f ≡ Some fault.Hex
  by p f all not_right (bad_number a is) = absurd (a all)
  by p f all not_right (bad_digits a b is) = is
  by p f all not_right (bad_size a b c d k m n is) = absurd (not_right b)
  by p f all not_right (too_long a b is) = absurd (not_right b)
  by p f all not_right (bad_packet a b c d g k l m n is) = absurd (not_right b)
  by p f all not_right (fine a b is) = absurd (not_right b)

  back : HasWrongDigits line → line_fault line ≡ Some fault.Hex
  back h = from_words line fault.Hex (h.in_range, by h.places (words_fault (words_of line)) h.numbers h.wrong (judged (words_of line) h.places h.form))

-- ---- packets

whole_is : (a b : List ℕ) → whole a ≡ whole b → a ≡ b
whole_is a b e = cc

-- the form with a packet's digits
packet_form : (words : List (List ℕ)) (p : Places) (digits : List ℕ) → HasForm words p → p.digits ≡ whole digits → words ≡ codes "packet" ∷ digits ∷ []
packet_form words p digits (agent name n) is = absurd cc
packet_form words p digits (zeros name addr len n) is = absurd cc
packet_form words p digits (buffer name addr len d n) is = absurd cc
packet_form words p digits (args name addr d n) is = absurd cc
packet_form words p digits (signal name h s n) is = absurd cc
packet_form words p digits (kernel name o c kind n k) is = absurd cc
packet_form words p digits (queue name owner s n o) is = absurd cc
packet_form words p digits (to name n) is = absurd cc
packet_form words p digits (packets d) is = ap (λ w. codes "packet" ∷ w ∷ []) (whole_is d digits is)
packet_form words p digits ends is = absurd cc

packet_is : (f g : PacketFault) → Some (fault.Packet f) ≡ Some (fault.Packet g) → f ≡ g
packet_is f g e = cc

packet_refused : (digits bytes : List ℕ) (f : PacketFault) → length digits ≡ 128 → Spells digits bytes → first_fault bytes ≡ Some f → words_fault (codes "packet" ∷ digits ∷ []) ≡ Some (fault.Packet f)
unfolding packet_digits
packet_refused digits bytes f len spelled first = refused digits bytes f len spelled first

pub packet_means : PacketMeans
packet_means line f = (there, back) where
  wrong : ¬ HasOutside line → OfWords (words_of line) (fault.Packet f) → HasRefusedPacket line f
  wrong range (inl (none, is)) = absurd cc
  wrong range (inr (p, h, bad_number a is)) = absurd cc
  wrong range (inr (p, h, bad_digits a b is)) = absurd cc
  wrong range (inr (p, h, bad_size a b c d k m n is)) = absurd cc
  wrong range (inr (p, h, too_long a b is)) = absurd cc
  wrong range (inr (p, h, bad_packet a b digits bytes g at len spelled first is)) =
      record { in_range = range; digits = digits; bytes = bytes; form = packet_form (words_of line) p digits h at; len = len; spelled = spelled; refused = first ∙ ap (λ k. Some k) (sym (packet_is f g is)) }
  wrong range (inr (p, h, fine a b is)) = absurd cc

  there : line_fault line ≡ Some (fault.Packet f) → HasRefusedPacket line f
  there e = let b = behind line (fault.Packet f) (λ is. cc) e in wrong b.0 (of_words (words_of line) (fault.Packet f) b.1)

  back : HasRefusedPacket line f → line_fault line ≡ Some (fault.Packet f)
  back h = from_words line (fault.Packet f) (h.in_range, ap words_fault h.form ∙ packet_refused h.digits h.bytes f h.len h.spelled h.refused)

-- ---- sizes

size_form : (words : List (List ℕ)) (p : Places) (s : List ℕ) → HasForm words p → p.size ≡ Some s → (name owner : List ℕ) × (words ≡ codes "queue" ∷ name ∷ owner ∷ s ∷ []) × IsName name × IsName owner
size_form words p s (agent name n) is = absurd cc
size_form words p s (zeros name addr len n) is = absurd cc
size_form words p s (buffer name addr len d n) is = absurd cc
size_form words p s (args name addr d n) is = absurd cc
size_form words p s (signal name h t n) is = absurd cc
size_form words p s (kernel name o c kind n k) is = absurd cc
size_form words p s (queue name owner t n o) is = (name, owner, ap (λ w. codes "queue" ∷ name ∷ owner ∷ w ∷ []) (some_is t s is), n, o)
size_form words p s (to name n) is = absurd cc
size_form words p s (packets d) is = absurd cc
size_form words p s ends is = absurd cc

size_refused : (name owner word : List ℕ) (n : ℕ) → IsName name → IsName owner → IsWithin 1 1024 word n → ¬ IsPower n → words_fault (codes "queue" ∷ name ∷ owner ∷ word ∷ []) ≡ Some fault.QueueSize
unfolding packet_digits plain_said queue_said queue_of size_said
size_refused name owner word n is_name is_owner w odd = rw (name_is name is_name, name_is owner is_owner, ranged_is 1 1024 word n w) (by (is_power n) refl)
  where
    by : (b : Bool) → is_power n ≡ b → fault_in (cond {A = Result ℕ LineFault} b (Ok n) (Err fault.QueueSize) >>= λ s. Ok (Queue name owner s)) ≡ Some fault.QueueSize
    by true is = absurd (odd (power_found n exponents is))
    by false is = refl

pub queue_size_means : QueueSizeMeans
queue_size_means line = (there, back) where
  wrong : ¬ HasOutside line → OfWords (words_of line) fault.QueueSize → HasWrongSize line
  wrong range (inl (none, is)) = absurd cc
  wrong range (inr (p, h, bad_number a is)) = absurd cc
  wrong range (inr (p, h, bad_digits a b is)) = absurd cc
  wrong range (inr (p, h, bad_size a b s n at within odd is)) =
      let (name, owner, form, is_name, is_owner) = size_form (words_of line) p s h at in
      record { in_range = range; name = name; owner = owner; word = s; size = n; form = form; is_name = is_name; is_owner = is_owner; within = within; no_power = odd }
  wrong range (inr (p, h, too_long a b is)) = absurd cc
  wrong range (inr (p, h, bad_packet a b c d g k l m n is)) = absurd cc
  wrong range (inr (p, h, fine a b is)) = absurd cc

  there : line_fault line ≡ Some fault.QueueSize → HasWrongSize line
  there e = let b = behind line fault.QueueSize (λ is. cc) e in wrong b.0 (of_words (words_of line) fault.QueueSize b.1)

  back : HasWrongSize line → line_fault line ≡ Some fault.QueueSize
  back h = from_words line fault.QueueSize (h.in_range, ap words_fault h.form ∙ size_refused h.name h.owner h.word h.size h.is_name h.is_owner h.within h.no_power)
