-- Digits have no space among them, so that a packet line has two words.
use Rattle.std.proofs.Common.{◌≡◌, ℕ, true, false, List, [], ◌∷◌, ◌++◌, ◌%◌, drop, ◌==◌, length, Option, codes, refl, sym, ◌∙◌, ap, subst, inl, inr, Decides}
use Rattle.std.specs.Prelude.{All, Ok, Err, IfSome, MatchResult, Result}
use Rattle.std.specs.Result.{result_ok}
use Rattle.std.proofs.lemmas.Bool.{cases_eq, ne_eqb, eq-eqb, eqb-true}
use Rattle.std.proofs.lemmas.List.Elements.{All-cons, All-nil, All-weaker}
use Rattle.std.proofs.lemmas.List.Splits.{slice_split_at, slice_split_none}
use Rattle.hex.specs.Hex.{decode_pairs, is_hex_digit}
use Rattle.hex.proofs.HexLemmas.{decode_pairs-ok, decode_of-even}
use Rattle.hq_text.specs.Lines.{is_space, words_of}
use Rattle.hq_lines.specs.declared.fault.LineFault.{LineFault}
use Rattle.hq_lines.specs.Meaning.{Meaning}
use Rattle.hq_lines.specs.Says.{Says, SpellsPacket, packets}

digit_apart : (c : ℕ) → is_hex_digit c ≡ true → is_space c ≡ false
digit_apart c h = elim (cases_eq c 32) [
  | inl same ↦ (let space : is_hex_digit 32 ≡ true = subst (λ b. is_hex_digit b ≡ true) same h in absurd cc)
  | inr apart ↦ ne_eqb c 32 apart
]

abbrev IsApart : ℕ → Type 0
IsApart c = is_space c ≡ false

pub word_apart : All IsApart (codes "packet")
word_apart =
    let rest : ℕ → List ℕ = λ n. drop n (codes "packet") in
    All-cons IsApart 112 (rest 1) refl (All-cons IsApart 97 (rest 2) refl (All-cons IsApart 99 (rest 3) refl (All-cons IsApart 107 (rest 4) refl (All-cons IsApart 101 (rest 5) refl (All-cons IsApart 116 (rest 6) refl (All-nil IsApart))))))

digits_apart : (digits : List ℕ) (m : Meaning) → SpellsPacket digits m → All IsApart digits
digits_apart digits m h =
    let even : length digits % 2 ≡ 0 = ap (λ n. n % 2) h.len in
    let read : decode_pairs 0 digits ≡ Ok h.bytes = sym (decode_of-even digits even) ∙ h.spelled in
    All-weaker (λ c. is_hex_digit c ≡ true) IsApart digit_apart digits (decode_pairs-ok 0 digits h.bytes read).0

two_words : (digits : List ℕ) → All IsApart digits → words_of (codes "packet " ++ digits) ≡ codes "packet" ∷ digits ∷ []
two_words digits apart = slice_split_at is_space (codes "packet") 32 digits word_apart refl ∙ ap (λ ws. codes "packet" ∷ ws) (slice_split_none is_space digits apart)

-- a line that goes on behind the word with digits that spell a packet says it
pub packet_behind : (line digits : List ℕ) (m : Meaning) → line ≡ codes "packet " ++ digits → SpellsPacket digits m → Says (words_of line) m
packet_behind line digits m e h =
    let words : words_of line ≡ codes "packet" ∷ digits ∷ [] = ap words_of e ∙ two_words digits (digits_apart digits m h) in
    subst (λ ws. Says ws m) (sym words) (subst (Says (codes "packet" ∷ digits ∷ [])) (sym h.is) (packets digits h.bytes h.sent h.len h.spelled h.text))

-- ---- what the code learns

pub same_numbers : (a b : ℕ) → Decides (a == b) (a ≡ b)
same_numbers a b = (eqb-true a b, eq-eqb a b)

-- the packet that the digits behind the word spell
pub packet_found : {X : Type 0} (v : X → Meaning) (r : Result X LineFault) (Q : LineFault → Type 0) (o : Option X) (line word digits : List ℕ) → word ≡ codes "packet " → line ≡ word ++ digits → MatchResult r (λ l. SpellsPacket digits (v l)) Q → o ≡ result_ok r → IfSome o (λ l. Says (words_of line) (v l))
packet_found v (Ok l) Q o line word digits is e h found = subst (λ p. IfSome p (λ l. Says (words_of line) (v l))) (sym found) (packet_behind line digits (v l) (e ∙ ap (λ w. w ++ digits) is) h)
packet_found v (Err f) Q o line word digits is e h found = subst (λ p. IfSome p (λ l. Says (words_of line) (v l))) (sym found) tt
