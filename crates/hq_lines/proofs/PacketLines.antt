-- Packet lines with other heads.
use Rattle.std.proofs.Common.{◌≡◌, ◌≢◌, ℕ, ◌+◌, ◌*◌, ◌/◌, ◌%◌, ◌<◌, ◌⊎◌, inl, inr, Bool, true, false, ◌||◌, List, [], ◌∷◌, ◌++◌, length, take, drop, slice_index, Option, Some, None, unwrap_or, Result, Ok, Err, codes, refl, sym, ap, subst, ◌∙◌, arith}
use Rattle.std.specs.Prelude.{◌↔◌, MatchOption, IsTrue, is_some}
use Rattle.std.specs.List.{list_any, join_with_byte}
use Rattle.std.proofs.lemmas.Bool.{or_parts, cases_eq}
use Rattle.std.proofs.lemmas.Grind.{common_steps}
use Rattle.std.proofs.lemmas.List.Splits.{join_with_byte-slice_split, slice_split_at}
use Rattle.hex.specs.Hex.{decode_pairs, digit_or_error, hex_digit_value, encode_lower, encode_with, lower_digits, pair_value, value_at, ◌>>=◌}
use Rattle.hex.specs.declared.error.FromHexError.{FromHexError}
use Rattle.hex.proofs.HexLemmas.{decode_of-even, IsDigits-lower_digits}
use Rattle.hex.proofs.Pairs.{cons_byte, decode_pairs-ok_pair}
use Rattle.hq_packet.specs.declared.packet.Head.{Head}
use Rattle.hq_packet.specs.declared.packet.Packet as packet
use Rattle.hq_packet.specs.declared.packet.Packet.TheVariants as format
use Rattle.hq_packet.specs.Parts.{head_of, with_head, kernel_with_head}
use Rattle.hq_packet.specs.HeadByte.{head_byte}
use Rattle.hq_packet.specs.PacketText.{PacketText}
use Rattle.hq_packet.proofs.Heads.{byte_small, one_head, head_stands_second, another_head}
use Rattle.hq_text.specs.Lines.{is_space, words_of}
use Rattle.hq_lines.specs.Bytes.{is_outside}
use Rattle.hq_lines.specs.Heads.{IsPacketLine, BeginsPacket, with_head_digits, WithHead, SaysWithHead, PacketsBegin}
use Rattle.hq_lines.specs.Meaning.{Meaning, Packet}
use Rattle.hq_lines.specs.Says.{Spells, SpellsPacket, Says, SaysLine, agent, zeros, buffer, args, signal, kernel, queue, to, packets, ends}
use Rattle.hq_lines.proofs.Digits.{packet_behind, word_apart}

-- ---- heads

-- heads are the same or not, as their bytes are
pub head_cases : (g h : Head) → (g ≡ h) ⊎ (g ≢ h)
head_cases g h = elim (cases_eq (head_byte g) (head_byte h)) [
  | inl same ↦ inl (one_head g h same)
  | inr other ↦ inr (λ e. other (ap head_byte e))
]

-- a packet with its own head is itself
pub own_head : (p : packet.Packet) (head : Head) → head_of p ≡ head → p ≡ with_head p head
own_head (format.Kernel k) head e = ap (λ h. format.Kernel (kernel_with_head k h)) e
own_head (format.Agent a) head e = ap (λ h. format.Agent (record a { head = h })) e
own_head (format.And b) head e = ap (λ h. format.And (record b { head = h })) e
own_head (format.Or b) head e = ap (λ h. format.Or (record b { head = h })) e

-- ---- what a line that says a packet is

pub record PacketWords (words : List (List ℕ)) (p : packet.Packet) : Type 0 where
  pub digits : List ℕ
  pub bytes : List ℕ
  pub words_are : words ≡ codes "packet" ∷ digits ∷ []
  pub len : length digits ≡ 128
  pub spelled : Spells digits bytes
  pub text : PacketText bytes p

packet_is : (p q : packet.Packet) → Packet p ≡ Packet q → p ≡ q
packet_is p q e = cc

packet_words : (words : List (List ℕ)) (m : Meaning) (p : packet.Packet) → Says words m → m ≡ Packet p → PacketWords words p
packet_words words m p (agent name n) e = absurd cc
packet_words words m p (zeros name addr len at c n a l) e = absurd cc
packet_words words m p (buffer name addr len digits at c bytes n a l two d) e = absurd cc
packet_words words m p (args name addr digits at bytes n a d some short) e = absurd cc
packet_words words m p (signal name h s handle start n a b) e = absurd cc
packet_words words m p (kernel name o c object kind n k a) e = absurd cc
packet_words words m p (queue name owner s size n o a w) e = absurd cc
packet_words words m p (to name n) e = absurd cc
packet_words words m p (packets digits bytes q len spelled text) e =
    record { digits = digits; bytes = bytes; words_are = refl; len = len; spelled = spelled; text = subst (λ (r : packet.Packet). PacketText bytes r) (packet_is q p e) text }
packet_words words m p ends e = absurd cc

line_is : (line digits : List ℕ) → words_of line ≡ codes "packet" ∷ digits ∷ [] → line ≡ codes "packet " ++ digits
line_is line digits e = sym (join_with_byte-slice_split 32 line) ∙ ap (join_with_byte 32) e

-- the digits behind the word, the first four apart
pub record PacketLine (line : List ℕ) (p : packet.Packet) : Type 0 where
  pub a : ℕ
  pub b : ℕ
  pub c : ℕ
  pub d : ℕ
  pub others : List ℕ
  pub bytes : List ℕ
  pub is : line ≡ codes "packet " ++ a ∷ b ∷ c ∷ d ∷ others
  pub len : length others ≡ 124
  pub spelled : Spells (a ∷ b ∷ c ∷ d ∷ others) bytes
  pub text : PacketText bytes p

cut_digits : (line : List ℕ) (p : packet.Packet) (digits bytes : List ℕ) → line ≡ codes "packet " ++ digits → length digits ≡ 128 → Spells digits bytes → PacketText bytes p → PacketLine line p
cut_digits line p [] bytes e len spelled text = absurd (omega arith)
cut_digits line p (a ∷ []) bytes e len spelled text = absurd (omega arith)
cut_digits line p (a ∷ b ∷ []) bytes e len spelled text = absurd (omega arith)
cut_digits line p (a ∷ b ∷ c ∷ []) bytes e len spelled text = absurd (omega arith)
cut_digits line p (a ∷ b ∷ c ∷ d ∷ others) bytes e len spelled text =
    record { a = a; b = b; c = c; d = d; others = others; bytes = bytes; is = e; len = omega arith; spelled = spelled; text = text }

pub packet_line : (line : List ℕ) (p : packet.Packet) → SaysLine line (Packet p) → PacketLine line p
packet_line line p h =
    let w = packet_words (words_of line) (Packet p) p h.words refl in
    cut_digits line p w.digits w.bytes (line_is line w.digits w.words_are) w.len w.spelled w.text

pub packet_room : (line : List ℕ) → IsPacketLine line → length line ≡ 135
packet_room line h = let l = packet_line line h.0 h.1 in ap length l.is ∙ omega (arith, l.len)

-- ---- how it begins

begins : (line : List ℕ) → IsPacketLine line → BeginsPacket line
begins line h = let l = packet_line line h.0 h.1 in (l.a ∷ l.b ∷ l.c ∷ l.d ∷ l.others, l.is)

first_word : (line rest : List ℕ) → line ≡ codes "packet " ++ rest → words_of line ≡ codes "packet" ∷ words_of rest
first_word line rest e = ap words_of e ∙ slice_split_at is_space (codes "packet") 32 rest word_apart refl

abbrev first_letter : List (List ℕ) → ℕ
first_letter [] = 0
first_letter (word ∷ words) = slice_index word 0

-- words that begin so say a packet
packet_only : (words others : List (List ℕ)) (m : Meaning) → Says words m → words ≡ codes "packet" ∷ others → (p : packet.Packet) × (m ≡ Packet p)
packet_only words others m (agent name n) e = absurd (omega (arith, ap first_letter e))
packet_only words others m (zeros name addr len at c n a l) e = absurd (omega (arith, ap first_letter e))
packet_only words others m (buffer name addr len digits at c bytes n a l two d) e = absurd (omega (arith, ap first_letter e))
packet_only words others m (args name addr digits at bytes n a d some short) e = absurd (omega (arith, ap first_letter e))
packet_only words others m (signal name h s handle start n a b) e = absurd (omega (arith, ap first_letter e))
packet_only words others m (kernel name o c object kind n k a) e = absurd (omega (arith, ap first_letter e))
packet_only words others m (queue name owner s size n o a w) e = absurd (omega (arith, ap first_letter e))
packet_only words others m (to name n) e = absurd (omega (arith, ap first_letter e))
packet_only words others m (packets digits bytes p len spelled text) e = (p, refl)
packet_only words others m ends e = absurd (omega (arith, ap first_letter e))

pub says_packet : (line : List ℕ) (m : Meaning) → SaysLine line m → BeginsPacket line → IsPacketLine line
says_packet line m h b =
    let only = packet_only (words_of line) (words_of b.0) m h.words (first_word line b.0 b.1) in
    (only.0, subst (λ (n : Meaning). SaysLine line n) only.1 h)

pub packets_begin : PacketsBegin
packets_begin line m h = (begins line, says_packet line m h)

-- ---- digits

bind : {A B : Type 0} (r : Result A FromHexError) (f : A → Result B FromHexError) (y : B) → (r >>= f) ≡ Ok y → (x : A) × (r ≡ Ok x) × (f x ≡ Ok y)
bind (Ok x) f y h = (x, refl, h)
bind (Err e) f y h = absurd cc

ok_is : {A : Type 0} (x y : A) → (let a : Result A FromHexError = Ok x in let b : Result A FromHexError = Ok y in a ≡ b) → x ≡ y
ok_is x y e = cc

digit_is : (c i : ℕ) (o : Option ℕ) (v : ℕ) → digit_or_error c i o ≡ Ok v → o ≡ Some v
digit_is c i (Some w) v h = ap Some (ok_is w v h)
digit_is c i None v h = absurd cc

-- two digits that read as a byte
pub record Pair (high low byte : ℕ) : Type 0 where
  pub first : ℕ
  pub second : ℕ
  pub high_is : hex_digit_value high ≡ Some first
  pub low_is : hex_digit_value low ≡ Some second
  pub whole : first * 16 + second ≡ byte

pair_read : (high low i byte : ℕ) → pair_value high low i ≡ Ok byte → Pair high low byte
pair_read high low i byte h =
    let p = bind (value_at high i) _ byte h in
    let q = bind (value_at low (i + 1)) _ byte p.2 in
    record { first = p.0; second = q.0; high_is = digit_is high i (hex_digit_value high) p.0 p.1; low_is = digit_is low (i + 1) (hex_digit_value low) q.0 q.1; whole = ok_is (p.0 * 16 + q.0) byte q.2 }

pair_is : (high low i byte : ℕ) → Pair high low byte → pair_value high low i ≡ Ok byte
pair_is high low i byte p =
    let x : value_at high i ≡ Ok p.first = ap (digit_or_error high i) p.high_is in
    let y : value_at low (i + 1) ≡ Ok p.second = ap (digit_or_error low (i + 1)) p.low_is in
    rw (x, y) (ap (λ (n : ℕ). Ok n) p.whole)

-- what stands in front of the rest
pub record TwoPairs (a b c d : ℕ) (others bytes : List ℕ) : Type 0 where
  pub x : ℕ
  pub y : ℕ
  pub rest : List ℕ
  pub bytes_are : bytes ≡ x ∷ y ∷ rest
  pub first : pair_value a b 0 ≡ Ok x
  pub second : Pair c d y
  pub decoded : decode_pairs 4 others ≡ Ok rest

two_pairs : (a b c d : ℕ) (others bytes : List ℕ) → decode_pairs 0 (a ∷ b ∷ c ∷ d ∷ others) ≡ Ok bytes → TwoPairs a b c d others bytes
unfolding decode_pairs
two_pairs a b c d others bytes h =
    let p = bind (pair_value a b 0) _ bytes h in
    let q = bind (decode_pairs 2 (c ∷ d ∷ others)) _ bytes p.2 in
    let r = bind (pair_value c d 2) _ q.0 q.1 in
    let s = bind (decode_pairs 4 others) _ q.0 r.2 in
    record { x = p.0; y = r.0; rest = s.0; bytes_are = sym (ok_is (p.0 ∷ q.0) bytes q.2) ∙ ap (λ t. p.0 ∷ t) (sym (ok_is (r.0 ∷ s.0) q.0 s.2)); first = p.1; second = pair_read c d 2 r.0 r.1; decoded = s.1 }

spelled_again : (a b c d : ℕ) (others : List ℕ) (x y : ℕ) (rest : List ℕ) → length others ≡ 124 → pair_value a b 0 ≡ Ok x → Pair c d y → decode_pairs 4 others ≡ Ok rest → Spells (a ∷ b ∷ c ∷ d ∷ others) (x ∷ y ∷ rest)
spelled_again a b c d others x y rest len first second decoded =
    decode_of-even (a ∷ b ∷ c ∷ d ∷ others) (omega (arith, len))
    ∙ decode_pairs-ok_pair 0 a b x (c ∷ d ∷ others) first
    ∙ ap (cons_byte x) (decode_pairs-ok_pair 2 c d y others (pair_is c d 2 y second) ∙ ap (cons_byte y) decoded)

pub lower_pair : (byte : ℕ) → byte < 256 → Pair (slice_index lower_digits (byte / 16)) (slice_index lower_digits (byte % 16)) byte
lower_pair byte small =
    record { first = byte / 16; second = byte % 16; high_is = IsDigits-lower_digits (byte / 16) (omega arith); low_is = IsDigits-lower_digits (byte % 16) (omega arith); whole = omega arith }

digit_inside : (c v : ℕ) → hex_digit_value c ≡ Some v → is_outside c ≡ false
digit_inside c v h = grind (arith, common_steps)

-- ---- the line with other digits

still_inside : (a b c d u v : ℕ) (others : List ℕ) → is_outside u ≡ false → is_outside v ≡ false → list_any is_outside (codes "packet " ++ a ∷ b ∷ c ∷ d ∷ others) ≡ false → list_any is_outside (codes "packet " ++ a ∷ b ∷ u ∷ v ∷ others) ≡ false
still_inside a b c d u v others hu hv h =
    let p = or_parts (is_outside a) (is_outside b || (is_outside c || (is_outside d || list_any is_outside others))) h in
    let q = or_parts (is_outside b) (is_outside c || (is_outside d || list_any is_outside others)) p.1 in
    let r = or_parts (is_outside c) (is_outside d || list_any is_outside others) q.1 in
    let s = or_parts (is_outside d) (list_any is_outside others) r.1 in
    rw (p.0, q.0, hu, hv) s.1

-- a line whose third and fourth digits are these
pub other_digits : (line : List ℕ) (p : packet.Packet) (head : Head) (u v : ℕ) (new : List ℕ) → (l : PacketLine line p) → list_any is_outside line ≡ false → Pair u v (head_byte head)
    → new ≡ codes "packet " ++ l.a ∷ l.b ∷ u ∷ v ∷ l.others → SaysLine new (Packet (with_head p head))
other_digits line p head u v new l range pair is =
    let t = two_pairs l.a l.b l.c l.d l.others l.bytes (sym (decode_of-even (l.a ∷ l.b ∷ l.c ∷ l.d ∷ l.others) (omega (arith, l.len))) ∙ l.spelled) in
    let spelled = spelled_again l.a l.b u v l.others t.x (head_byte head) t.rest l.len t.first pair t.decoded in
    let text : PacketText (t.x ∷ head_byte head ∷ t.rest) (with_head p head) = another_head (t.x ∷ t.y ∷ t.rest) p head (subst (λ bs. PacketText bs p) t.bytes_are l.text) in
    let said : SpellsPacket (l.a ∷ l.b ∷ u ∷ v ∷ l.others) (Packet (with_head p head)) = record { bytes = t.x ∷ head_byte head ∷ t.rest; sent = with_head p head; len = omega (arith, l.len); spelled = spelled; text = text; is = refl } in
    record {
      in_range = ap (list_any is_outside) is ∙ still_inside l.a l.b l.c l.d u v l.others (digit_inside u pair.first pair.high_is) (digit_inside v pair.second pair.low_is) (ap (list_any is_outside) (sym l.is) ∙ range);
      words = packet_behind new (l.a ∷ l.b ∷ u ∷ v ∷ l.others) (Packet (with_head p head)) is said;
    }

with_digits : (line : List ℕ) (p : packet.Packet) (head : Head) (l : PacketLine line p)
    → with_head_digits line head ≡ codes "packet " ++ l.a ∷ l.b ∷ slice_index lower_digits (head_byte head / 16) ∷ slice_index lower_digits (head_byte head % 16) ∷ l.others
unfolding encode_with
with_digits line p head l = ap (λ t. with_head_digits t head) l.is

says_changed : (line : List ℕ) (p : packet.Packet) (head : Head) → SaysLine line (Packet p) → SaysLine (with_head_digits line head) (Packet (with_head p head))
says_changed line p head h =
    let l = packet_line line p h in
    other_digits line p head (slice_index lower_digits (head_byte head / 16)) (slice_index lower_digits (head_byte head % 16)) (with_head_digits line head) l h.in_range (lower_pair (head_byte head) (omega (arith, byte_small head))) (with_digits line p head l)

pub says_with_head : SaysWithHead
says_with_head line head new w = by (head_cases (head_of w.sent) head) where
  by : (head_of w.sent ≡ head) ⊎ (head_of w.sent ≢ head) → SaysLine new (Packet (with_head w.sent head))
  by (inl same) = subst (λ (n : List ℕ). SaysLine n (Packet (with_head w.sent head))) (sym (w.kept same)) (subst (λ (q : packet.Packet). SaysLine line (Packet q)) (own_head w.sent head same) w.says_it)
  by (inr other) = subst (λ (n : List ℕ). SaysLine n (Packet (with_head w.sent head))) (sym (w.changed other)) (says_changed line w.sent head w.says_it)

-- ---- what the code learns

pub begins_found : {X : Type 0} (v : X → List ℕ) (r : Option X) (line word : List ℕ) (b : Bool) → b ≡ is_some r → word ≡ codes "packet " → MatchOption r ((rest : List ℕ) → line ≢ word ++ rest) (λ x. line ≡ word ++ v x) → IsTrue b ↔ BeginsPacket line
begins_found v None line word b is e h = ((λ t. (let no : false ≡ true = sym is ∙ t in absurd cc)), (λ p. absurd (h p.0 (p.1 ∙ ap (λ w. w ++ p.0) (sym e)))))
begins_found v (Some x) line word b is e h = ((λ t. (v x, h ∙ ap (λ w. w ++ v x) e)), (λ p. is))

-- the digits are those of the head's byte exactly where the packet has that head
two_digits : (line : List ℕ) (p : packet.Packet) → (l : PacketLine line p) → Pair l.c l.d (head_byte (head_of p))
two_digits line p l =
    let t = two_pairs l.a l.b l.c l.d l.others l.bytes (sym (decode_of-even (l.a ∷ l.b ∷ l.c ∷ l.d ∷ l.others) (omega (arith, l.len))) ∙ l.spelled) in
    let stands : t.y ≡ head_byte (head_of p) = head_stands_second (t.x ∷ t.y ∷ t.rest) p (subst (λ bs. PacketText bs p) t.bytes_are l.text) in
    subst (λ (n : ℕ). Pair l.c l.d n) stands t.second

value_is : (high low byte : ℕ) → Pair high low byte → unwrap_or (hex_digit_value high) 255 * 16 + unwrap_or (hex_digit_value low) 255 ≡ byte
value_is high low byte p = ap (λ o. unwrap_or o 255 * 16 + unwrap_or (hex_digit_value low) 255) p.high_is ∙ (ap (λ o. p.first * 16 + unwrap_or o 255) p.low_is ∙ p.whole)

-- the parts of a line
pub record Cut (line front old behind : List ℕ) : Type 0 where
  pub front_is : front ≡ take 9 line
  pub old_is : old ≡ take 2 (drop 9 line)
  pub behind_is : behind ≡ drop 2 (drop 9 line)

joined : (line front old behind digits : List ℕ) (p : packet.Packet) → Cut line front old behind → (l : PacketLine line p) → front ++ digits ++ behind ≡ take 9 line ++ digits ++ drop 11 line
joined line front old behind digits p k l =
    let same : drop 2 (drop 9 line) ≡ drop 11 line = ap (λ t. drop 2 (drop 9 t)) l.is ∙ ap (drop 11) (sym l.is) in
    ap (λ f. f ++ digits ++ behind) k.front_is ∙ ap (λ b. take 9 line ++ digits ++ b) (k.behind_is ∙ same)

old_digits : (line front old behind : List ℕ) (p : packet.Packet) → Cut line front old behind → (l : PacketLine line p) → old ≡ l.c ∷ l.d ∷ []
old_digits line front old behind p k l = k.old_is ∙ ap (λ t. take 2 (drop 9 t)) l.is

put_back : (line : List ℕ) (p : packet.Packet) (l : PacketLine line p) → take 9 line ++ (l.c ∷ l.d ∷ []) ++ drop 11 line ≡ line
put_back line p l = ap (λ t. take 9 t ++ (l.c ∷ l.d ∷ []) ++ drop 11 t) l.is ∙ sym l.is

pub with_head_found : (line front old behind digits : List ℕ) (head : Head) (byte high low : ℕ) → IsPacketLine line → Cut line front old behind → byte ≡ head_byte head → high ≡ slice_index old 0 → low ≡ slice_index old 1
    → (unwrap_or (hex_digit_value high) 255 * 16 + unwrap_or (hex_digit_value low) 255 ≡ byte → digits ≡ high ∷ low ∷ [])
    → (unwrap_or (hex_digit_value high) 255 * 16 + unwrap_or (hex_digit_value low) 255 ≢ byte → digits ≡ encode_lower (byte ∷ []))
    → WithHead line head (front ++ digits ++ behind)
with_head_found line front old behind digits head byte high low h k byte_is high_is low_is same other =
    let p = h.0 in
    let l = packet_line line p h.1 in
    let old_are = old_digits line front old behind p k l in
    let high_c : high ≡ l.c = high_is ∙ ap (λ o. slice_index o 0) old_are in
    let low_d : low ≡ l.d = low_is ∙ ap (λ o. slice_index o 1) old_are in
    let value : unwrap_or (hex_digit_value high) 255 * 16 + unwrap_or (hex_digit_value low) 255 ≡ head_byte (head_of p)
    = ap (λ c. unwrap_or (hex_digit_value c) 255 * 16 + unwrap_or (hex_digit_value low) 255) high_c ∙ (ap (λ d. unwrap_or (hex_digit_value l.c) 255 * 16 + unwrap_or (hex_digit_value d) 255) low_d ∙ value_is l.c l.d (head_byte (head_of p)) (two_digits line p l)) in
    let whole = joined line front old behind digits p k l in
    record {
      sent = p;
      says_it = h.1;
      kept = λ e.
          let digits_are : digits ≡ l.c ∷ l.d ∷ [] = same (value ∙ (ap head_byte e ∙ sym byte_is)) ∙ (ap (λ c. c ∷ low ∷ []) high_c ∙ ap (λ d. l.c ∷ d ∷ []) low_d) in
          whole ∙ (ap (λ ds. take 9 line ++ ds ++ drop 11 line) digits_are ∙ put_back line p l);
      changed = λ n.
          let apart : unwrap_or (hex_digit_value high) 255 * 16 + unwrap_or (hex_digit_value low) 255 ≢ byte = λ e. n (one_head (head_of p) head (sym value ∙ (e ∙ byte_is))) in
          whole ∙ ap (λ ds. take 9 line ++ ds ++ drop 11 line) (other apart ∙ ap (λ b. encode_lower (b ∷ [])) byte_is);
    }
