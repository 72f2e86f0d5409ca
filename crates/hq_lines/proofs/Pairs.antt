-- Pairs of digits decoded one behind another.
use Rattle.std.proofs.Common.{◌≡◌, ◌≢◌, inl, inr, ℕ, ◌+◌, ◌*◌, ◌%◌, ◌<◌, ◌≤◌, Bool, true, false, ◌&&◌, List, length, take, drop, Option, Some, None, unwrap_or, Result, Ok, Err, refl, sym, ap, subst, ◌∙◌, arith, slice_index, slice_set, nat_lt}
use Rattle.std.specs.Prelude.{IsErr, is_err as result_is_err}
use Rattle.std.proofs.lemmas.Bool.{cases_lt, lt-ltb}
use Rattle.std.proofs.lemmas.List.{get_or-set_other}
use Rattle.std.proofs.lemmas.Grind.{get_or-set_at}
use Rattle.hex.specs.Hex.{decode_of, decode_pairs, decode_sized, hex_digit_value, pair_value, value_at, digit_or_error}
use Rattle.hex.specs.declared.error.FromHexError.{FromHexError}
use Rattle.hex.specs.declared.error.FromHexError.TheVariants.{InvalidHexCharacter}
use Rattle.hex.proofs.HexLemmas.{decode_of-even, decode_sized-ok, decode_sized-twice}
use Rattle.hex.proofs.Pairs.{prepend, decode_step, decode_err, decode_done}
use Rattle.hq_packet.specs.Faults.{first_fault}
use Rattle.hq_packet.specs.declared.fault.PacketFault.{PacketFault}
use Rattle.hq_lines.specs.declared.fault.LineFault.TheVariants as fault
use Rattle.hq_lines.specs.Order.{digits_fault, bytes_fault, packet_fault, decoded, sized_said}
use Rattle.hq_lines.specs.Decodes.{AreValues, Decodes}

-- the first pairs are decoded, or some are no digits
abbrev pub DecodesTo : List ℕ → List ℕ → ℕ → Bool → Type 0
DecodesTo digits bytes i true = decode_pairs 0 digits ≡ prepend (take i bytes) (decode_pairs (2 * i) (drop (2 * i) digits))
DecodesTo digits bytes i false = IsErr (decode_pairs 0 digits)

and_false : (b : Bool) → (b && false) ≡ false
and_false true = refl
and_false false = refl

digit_low : (c v : ℕ) → hex_digit_value c ≡ Some v → v < 16
digit_low c v h = grind (arith)

failed : (digits : List ℕ) (e : FromHexError) → decode_pairs 0 digits ≡ Err e → IsErr (decode_pairs 0 digits)
failed digits e h = ap result_is_err h

pub decodes_more : (digits bytes : List ℕ) (i high low byte : ℕ) (fine more : Bool) → DecodesTo digits bytes i fine → 2 * i + 1 < length digits → i < length bytes
    → high ≡ unwrap_or (hex_digit_value (slice_index digits (2 * i))) 255 → low ≡ unwrap_or (hex_digit_value (slice_index digits (2 * i + 1))) 255
    → more ≡ (fine && (nat_lt high 16 && nat_lt low 16)) → (high < 16 → low < 16 → byte ≡ high * 16 + low) → DecodesTo digits (slice_set bytes i byte) (i + 1) more
decodes_more digits bytes i high low byte fine more h fits room e f m whole =
    subst (DecodesTo digits (slice_set bytes i byte) (i + 1)) (sym m) (by fine h) where
      x : ℕ
      x = slice_index digits (2 * i)

      y : ℕ
      y = slice_index digits (2 * i + 1)

      both : (v w : ℕ) → hex_digit_value x ≡ Some v → hex_digit_value y ≡ Some w → DecodesTo digits bytes i true → DecodesTo digits (slice_set bytes i byte) (i + 1) (nat_lt high 16 && nat_lt low 16)
      both v w ex ey far =
          let high_is : high ≡ v = e ∙ ap (λ o. unwrap_or o 255) ex in
          let low_is : low ≡ w = f ∙ ap (λ o. unwrap_or o 255) ey in
          let first : high < 16 = omega (arith, high_is, digit_low x v ex) in
          let second : low < 16 = omega (arith, low_is, digit_low y w ey) in
          let test : (nat_lt high 16 && nat_lt low 16) ≡ true = ap (λ b. b && nat_lt low 16) (lt-ltb high 16 first) ∙ lt-ltb low 16 second in
          let read_x : value_at x (2 * i) ≡ Ok v = ap (digit_or_error x (2 * i)) ex in
          let read_y : value_at y (2 * i + 1) ≡ Ok w = ap (digit_or_error y (2 * i + 1)) ey in
          let read : pair_value x y (2 * i) ≡ Ok (v * 16 + w) = rw (read_x, read_y) refl in
          let is : v * 16 + w ≡ byte = omega (arith, whole first second, high_is, low_is) in
          subst (DecodesTo digits (slice_set bytes i byte) (i + 1)) (sym test) (decode_step digits bytes i byte fits room (read ∙ ap Ok is) far)

      none_first : hex_digit_value x ≡ None → DecodesTo digits bytes i true → DecodesTo digits (slice_set bytes i byte) (i + 1) (nat_lt high 16 && nat_lt low 16)
      none_first ex far =
          let test : (nat_lt high 16 && nat_lt low 16) ≡ false = ap (λ k. nat_lt k 16 && nat_lt low 16) (e ∙ ap (λ o. unwrap_or o 255) ex) in
          let read_x : value_at x (2 * i) ≡ Err (InvalidHexCharacter x (2 * i)) = ap (digit_or_error x (2 * i)) ex in
          let read : pair_value x y (2 * i) ≡ Err (InvalidHexCharacter x (2 * i)) = rw read_x refl in
          subst (DecodesTo digits (slice_set bytes i byte) (i + 1)) (sym test) (failed digits (InvalidHexCharacter x (2 * i)) (decode_err digits bytes i (InvalidHexCharacter x (2 * i)) fits read far))

      none_second : (v : ℕ) → hex_digit_value x ≡ Some v → hex_digit_value y ≡ None → DecodesTo digits bytes i true → DecodesTo digits (slice_set bytes i byte) (i + 1) (nat_lt high 16 && nat_lt low 16)
      none_second v ex ey far =
          let test : (nat_lt high 16 && nat_lt low 16) ≡ false = ap (λ k. nat_lt high 16 && nat_lt k 16) (f ∙ ap (λ o. unwrap_or o 255) ey) ∙ and_false (nat_lt high 16) in
          let read_x : value_at x (2 * i) ≡ Ok v = ap (digit_or_error x (2 * i)) ex in
          let read_y : value_at y (2 * i + 1) ≡ Err (InvalidHexCharacter y (2 * i + 1)) = ap (digit_or_error y (2 * i + 1)) ey in
          let read : pair_value x y (2 * i) ≡ Err (InvalidHexCharacter y (2 * i + 1)) = rw (read_x, read_y) refl in
          subst (DecodesTo digits (slice_set bytes i byte) (i + 1)) (sym test) (failed digits (InvalidHexCharacter y (2 * i + 1)) (decode_err digits bytes i (InvalidHexCharacter y (2 * i + 1)) fits read far))

      pair : (o p : Option ℕ) → hex_digit_value x ≡ o → hex_digit_value y ≡ p → DecodesTo digits bytes i true → DecodesTo digits (slice_set bytes i byte) (i + 1) (nat_lt high 16 && nat_lt low 16)
      pair None p ex ey far = none_first ex far
      pair (Some v) None ex ey far = none_second v ex ey far
      pair (Some v) (Some w) ex ey far = both v w ex ey far

      by : (b : Bool) → DecodesTo digits bytes i b → DecodesTo digits (slice_set bytes i byte) (i + 1) (b && (nat_lt high 16 && nat_lt low 16))
      by false near = near
      by true far = pair (hex_digit_value x) (hex_digit_value y) refl refl far

pub decodes_all : (digits bytes : List ℕ) (i : ℕ) (fine : Bool) → DecodesTo digits bytes i fine → length bytes ≤ i → length digits ≤ 2 * i → Decodes digits bytes fine
decodes_all digits bytes i true h l m = decode_done digits bytes i l m h
decodes_all digits bytes i false h l m = h

-- ---- the values of digits

pub values_more : (digits values : List ℕ) (from i value : ℕ) → AreValues digits from i values → i < length values → value ≡ unwrap_or (hex_digit_value (slice_index digits (from + i))) 255 → AreValues digits from (i + 1) (slice_set values i value)
values_more digits values from i value before room is k l = elim (cases_lt k i) [
  | inl below ↦ (let other : k ≢ i = λ e. omega (arith, e, below) in get_or-set_other values i k value 0 other ∙ before k below)
  | inr above ↦ (let here : k ≡ i = omega (arith, l, above) in get_or-set_at values i k value 0 here room ∙ is ∙ ap (λ n. unwrap_or (hex_digit_value (slice_index digits (from + n))) 255) (sym here))
]

-- ---- what is wrong with digits

pub wrong_count : (digits : List ℕ) → (length digits ≡ 128 → ⊥) → digits_fault digits ≡ Some fault.Hex
unfolding digits_fault
wrong_count digits ban = by (decode_sized digits 64) refl where
  by : (d : Result (List ℕ) FromHexError) → decode_sized digits 64 ≡ d → bytes_fault d ≡ Some fault.Hex
  by (Ok bytes) e = absurd (ban (decode_sized-ok digits 64 bytes e))
  by (Err f) e = refl

-- digits of which some are none
pub wrong_digit : (digits : List ℕ) → length digits ≡ 128 → IsErr (decode_pairs 0 digits) → digits_fault digits ≡ Some fault.Hex
unfolding digits_fault
wrong_digit digits len h = by (decode_sized digits 64) (decode_sized-twice digits 64 len ∙ decode_of-even digits (ap (λ n. n % 2) len)) where
  by : (d : Result (List ℕ) FromHexError) → d ≡ decode_pairs 0 digits → bytes_fault d ≡ Some fault.Hex
  by (Ok bytes) e = (let no : false ≡ true = ap result_is_err e ∙ h in absurd cc)
  by (Err f) e = refl

-- ---- so many pairs of digits

even : (digits : List ℕ) (n : ℕ) → length digits ≡ 2 * n → length digits % 2 ≡ 0
even digits n len = omega (arith, len)

pub sized_wrong_count : (digits : List ℕ) (n : ℕ) → (length digits ≡ 2 * n → ⊥) → sized_said n digits ≡ Err fault.Hex
unfolding sized_said
sized_wrong_count digits n ban = by (decode_sized digits n) refl where
  by : (d : Result (List ℕ) FromHexError) → decode_sized digits n ≡ d → decoded d ≡ Err fault.Hex
  by (Ok bytes) e = absurd (ban (decode_sized-ok digits n bytes e))
  by (Err f) e = refl

pub sized_wrong_digit : (digits : List ℕ) (n : ℕ) → length digits ≡ 2 * n → IsErr (decode_pairs 0 digits) → sized_said n digits ≡ Err fault.Hex
unfolding sized_said
sized_wrong_digit digits n len h = by (decode_sized digits n) (decode_sized-twice digits n len ∙ decode_of-even digits (even digits n len)) where
  by : (d : Result (List ℕ) FromHexError) → d ≡ decode_pairs 0 digits → decoded d ≡ Err fault.Hex
  by (Ok bytes) e = (let no : false ≡ true = ap result_is_err e ∙ h in absurd cc)
  by (Err f) e = refl

pub sized_right : (digits bytes : List ℕ) (n : ℕ) → length digits ≡ 2 * n → decode_pairs 0 digits ≡ Ok bytes → sized_said n digits ≡ Ok bytes
unfolding sized_said
sized_right digits bytes n len h = ap decoded (decode_sized-twice digits n len ∙ decode_of-even digits (even digits n len) ∙ h)

-- a packet's bytes that are refused
pub refused : (digits bytes : List ℕ) (f : PacketFault) → length digits ≡ 128 → decode_of digits ≡ Ok bytes → first_fault bytes ≡ Some f → digits_fault digits ≡ Some (fault.Packet f)
unfolding digits_fault
refused digits bytes f len h refusal = ap bytes_fault (decode_sized-twice digits 64 len ∙ h) ∙ ap packet_fault refusal
