-- What the order of tests makes of the words of a line, by their form.
use Rattle.std.proofs.Common.{◌≡◌, ℕ, ◌*◌, ◌^◌, ◌≤◌, inl, inr, Bool, true, false, cond, List, [], ◌∷◌, length, refl, sym, ap, subst, ◌∙◌}
use Rattle.std.specs.Prelude.{Option, Some, None, Result, Ok, Err}
use Rattle.hex.specs.Hex.{decode_sized}
use Rattle.hex.specs.declared.error.FromHexError.{FromHexError}
use Rattle.hex.proofs.HexLemmas.{decode_sized-twice, decode_sized-ok}
use Rattle.hq_packet.specs.Faults.{first_fault}
use Rattle.hq_packet.specs.declared.fault.PacketFault.{PacketFault}
use Rattle.hq_text.specs.InTurn.{◌>>=◌}
use Rattle.hq_text.specs.Numbers.{IsNumber}
use Rattle.hq_text.proofs.NumberLaws.{number_only}
use Rattle.hq_lines.specs.declared.fault.LineFault.{LineFault}
use Rattle.hq_lines.specs.declared.fault.LineFault.TheVariants as fault
use Rattle.hq_lines.specs.Says.{IsWithin, Spells, IsPower}
use Rattle.hq_lines.specs.Order.{ranged, sized_said, some_said, short_said, is_power, size_said, extent_said, digits_fault, bytes_fault, packet_fault, fault_in}
use Rattle.hq_lines.specs.LineForms.{Places, nowhere, counted, some, whole, number, places, numbers_only, NumbersAreRight, DigitsAreRight}
use Rattle.hq_lines.proofs.Parts.{ranged_ok, sized_ok, some_ok, small_power}
use Rattle.hq_lines.proofs.Told.{ranged_told, no_number, sized_told, no_bytes, some_told, no_some, short_told}

-- what the tests behind the words' form find
pub data Judged (p : Places) (f : Option LineFault) : Type 0 where
  bad_number : ¬ NumbersAreRight p → f ≡ Some fault.Number → Judged p f
  bad_digits : NumbersAreRight p → ¬ DigitsAreRight p → f ≡ Some fault.Hex → Judged p f
  bad_size : NumbersAreRight p → DigitsAreRight p → (s : List ℕ) (n : ℕ) → p.size ≡ Some s → IsWithin 1 1024 s n → ¬ IsPower n → f ≡ Some fault.QueueSize → Judged p f
  too_long : NumbersAreRight p → DigitsAreRight p → f ≡ Some fault.TooLong → Judged p f
  bad_packet : NumbersAreRight p → DigitsAreRight p → (digits bytes : List ℕ) (g : PacketFault) → p.digits ≡ whole digits → length digits ≡ 128 → Spells digits bytes → first_fault bytes ≡ Some g → f ≡ Some (fault.Packet g) → Judged p f
  fine : NumbersAreRight p → DigitsAreRight p → f ≡ None → Judged p f

-- ---- behind one number more

abbrev with_number : ℕ → ℕ → List ℕ → Places → Places
with_number low high word p = record { numbers = number low high word ∷ p.numbers; digits = p.digits; size = p.size }

one_right : (low high : ℕ) (word : List ℕ) (p : Places) (f : Option LineFault) (n : ℕ) → IsWithin low high word n → Judged p f → Judged (with_number low high word p) f
one_right low high word p f n w (bad_number ban is) = bad_number (λ all. ban all.1) is
one_right low high word p f n w (bad_digits all ban is) = bad_digits ((n, w), all) ban is
one_right low high word p f n w (bad_size all d s m at within ban is) = bad_size ((n, w), all) d s m at within ban is
one_right low high word p f n w (too_long all d is) = too_long ((n, w), all) d is
one_right low high word p f n w (bad_packet all d digits bytes g at len spelled ban is) = bad_packet ((n, w), all) d digits bytes g at len spelled ban is
one_right low high word p f n w (fine all d is) = fine ((n, w), all) d is

one_wrong : (low high : ℕ) (word : List ℕ) (p : Places) → ranged low high word ≡ Err fault.Number → Judged (with_number low high word p) (Some fault.Number)
one_wrong low high word p is = bad_number (λ all. no_number low high word is all.0.0 all.0.1) refl

pub number_then : {B : Type 0} (low high : ℕ) (word : List ℕ) (p : Places) (k : ℕ → Result B LineFault) → ((n : ℕ) → IsWithin low high word n → Judged p (fault_in (k n))) → Judged (with_number low high word p) (fault_in (ranged low high word >>= k))
number_then low high word p k h = elim (ranged_told low high word) [
  | inl (n, is) ↦ (let w = ranged_ok low high word n is in rw is (one_right low high word p (fault_in (k n)) n w (h n w)))
  | inr is ↦ rw is (one_wrong low high word p is)
]

pub extent_then : {B : Type 0} (addr len : List ℕ) (p : Places) (k : ℕ × ℕ → Result B LineFault) → ((at n : ℕ) → IsWithin 1 65536 len n → Judged p (fault_in (k (at, n))))
    → Judged (with_number 1 (2 ^ 48) addr (with_number 1 65536 len p)) (fault_in (extent_said addr len >>= k))
unfolding extent_said
extent_then addr len p k h = elim (ranged_told 1 (2 ^ 48) addr) [
  | inl (at, is) ↦ elim (ranged_told 1 65536 len) [
    | inl (n, same) ↦
        let a = ranged_ok 1 (2 ^ 48) addr at is in
        let w = ranged_ok 1 65536 len n same in
        rw (is, same) (one_right 1 (2 ^ 48) addr (with_number 1 65536 len p) (fault_in (k (at, n))) at a (one_right 1 65536 len p (fault_in (k (at, n))) n w (h at n w)))
    | inr ban ↦ rw (is, ban) (one_right 1 (2 ^ 48) addr (with_number 1 65536 len p) (Some fault.Number) at (ranged_ok 1 (2 ^ 48) addr at is) (one_wrong 1 65536 len p ban))
  ]
  | inr is ↦ rw is (one_wrong 1 (2 ^ 48) addr (with_number 1 65536 len p) is)
]

-- ---- the ends of lines

pub all_fine : {B : Type 0} (x : B) → Judged (numbers_only []) (fault_in (Ok x))
all_fine x = fine tt ([], refl) refl

some_is : {A : Type 0} (a b : A) → Some a ≡ Some b → a ≡ b
some_is a b e = cc

one_number : (word : List ℕ) (n m : ℕ) → IsNumber word n → IsNumber word m → n ≡ m
one_number word n m h k = some_is n m (sym (number_only word n h) ∙ number_only word m k)

pub sized_end : {B : Type 0} (len digits : List ℕ) (n : ℕ) (k : List ℕ → B) → IsNumber len n → Judged (places [] (counted len digits)) (fault_in (sized_said n digits >>= λ bytes. Ok (k bytes)))
sized_end len digits n k h = elim (sized_told n digits) [
  | inl (bytes, is) ↦ (let two = sized_ok n digits bytes is in rw is (fine tt (bytes, (n, h, two.0, two.1)) refl))
  | inr is ↦ rw is (bad_digits tt (λ (bytes, (m, num, two, spelled)). no_bytes n digits is bytes (two ∙ ap (λ i. 2 * i) (one_number len m n num h)) spelled) refl)
]

pub some_end : {B : Type 0} (digits : List ℕ) (k : List ℕ → B) → Judged (places [] (some digits)) (fault_in (some_said digits >>= λ bytes. short_said bytes >>= λ short. Ok (k short)))
some_end digits k = elim (some_told digits) [
  | inl (bytes, is) ↦
      let r = some_ok digits bytes is in
      elim (short_told bytes) [
        | inl (short, s) ↦ rw (is, s) (fine tt (bytes, (r.1, r.0)) refl)
        | inr s ↦ rw (is, s) (too_long tt (bytes, (r.1, r.0)) refl)
      ]
  | inr is ↦ rw is (bad_digits tt (λ (bytes, (low, spelled)). no_some digits is bytes low spelled) refl)
]

no_power : (n : ℕ) → n ≤ 1024 → is_power n ≡ false → ¬ IsPower n
no_power n le ban h =
    let yes : is_power n ≡ true = ap is_power h.power ∙ small_power h.exponent (subst (λ (k : ℕ). k ≤ 1024) h.power le) in
    let both : true ≡ false = sym yes ∙ ban in
    cc

pub size_end : {B : Type 0} (s : List ℕ) (k : ℕ → B) → Judged (record { numbers = number 1 1024 s ∷ []; digits = nowhere; size = Some s }) (fault_in (size_said s >>= λ n. Ok (k n)))
unfolding size_said
size_end {B} s k = elim (ranged_told 1 1024 s) [
  | inl (n, is) ↦ rw is (by n (ranged_ok 1 1024 s n is) (is_power n) refl)
  | inr is ↦ rw is (bad_number (λ all. no_number 1 1024 s is all.0.0 all.0.1) refl)
] where
  by : (n : ℕ) → IsWithin 1 1024 s n → (b : Bool) → is_power n ≡ b
      → Judged (record { numbers = number 1 1024 s ∷ []; digits = nowhere; size = Some s }) (fault_in (cond {A = Result ℕ LineFault} b (Ok n) (Err fault.QueueSize) >>= λ m. Ok (k m)))
  by n w true is = fine ((n, w), tt) ([], refl) refl
  by n w false is = bad_size ((n, w), tt) ([], refl) s n refl w (no_power n w.upto is) refl

pub whole_end : (digits : List ℕ) → Judged (places [] (whole digits)) (digits_fault digits)
unfolding digits_fault
whole_end digits = by (decode_sized digits 64) refl where
  judged : (bytes : List ℕ) → length digits ≡ 128 → Spells digits bytes → (o : Option PacketFault) → first_fault bytes ≡ o → Judged (places [] (whole digits)) (packet_fault o)
  judged bytes len spelled None is = fine tt (bytes, (len, spelled)) refl
  judged bytes len spelled (Some g) is = bad_packet tt (bytes, (len, spelled)) digits bytes g refl len spelled is refl

  by : (r : Result (List ℕ) FromHexError) → decode_sized digits 64 ≡ r → Judged (places [] (whole digits)) (bytes_fault r)
  by (Ok bytes) e = let len = decode_sized-ok digits 64 bytes e in judged bytes len (sym (decode_sized-twice digits 64 len) ∙ e) (first_fault bytes) refl
  by (Err f) e = bad_digits tt (λ (bytes, (len, spelled)). (let both = sym e ∙ decode_sized-twice digits 64 len ∙ spelled in cc)) refl
