-- The parts of lines, right or wrong.
use Rattle.std.proofs.Common.{◌≡◌, ℕ, ◌*◌, ◌≤◌, ◌⊎◌, inl, inr, Bool, true, false, cond, List, [], ◌∷◌, length, refl, sym, ap, ◌∙◌}
use Rattle.std.specs.Prelude.{Option, Some, None, Result, Ok, Err, nat_le, ◌&&◌, codes}
use Rattle.std.specs.Str.{bytes_eq}
use Rattle.hex.specs.Hex.{decode_of, decode_sized}
use Rattle.hex.specs.declared.error.FromHexError.{FromHexError}
use Rattle.hq_footprint.specs.declared.task.Code.{Code}
use Rattle.hq_footprint.specs.declared.task.Code.TheVariants as code
use Rattle.hq_text.specs.Numbers.{number_of}
use Rattle.hq_lines.specs.declared.fault.LineFault.{LineFault}
use Rattle.hq_lines.specs.declared.fault.LineFault.TheVariants as fault
use Rattle.hq_lines.specs.Says.{IsWithin, Spells}
use Rattle.hq_lines.specs.Order.{within, decoded, decoded_some, ranged, code_said, sized_said, some_said, short_said}
use Rattle.hq_lines.proofs.Parts.{ranged_is, sized_is, some_is}

-- an answer that is this fault wherever it is one
abbrev pub FailsAs : {A : Type 0} → LineFault → Result A LineFault → Type 0
FailsAs {A} e r = (f : LineFault) → r ≡ Err f → f ≡ e

-- an answer is a value or the fault
pub told : {A : Type 0} (r : Result A LineFault) (e : LineFault) → FailsAs e r → ((x : A) × (r ≡ Ok x)) ⊎ (r ≡ Err e)
told (Ok x) e fails = inl (x, refl)
told (Err f) e fails = inr (ap (λ g. Err g) (fails f refl))

pub ok_err : {A : Type 0} {x : A} {e : LineFault} → (let r : Result A LineFault = Ok x in let s : Result A LineFault = Err e in r ≡ s) → ⊥
ok_err e = cc

err_is : {A : Type 0} (a b : LineFault) → (let r : Result A LineFault = Err a in let s : Result A LineFault = Err b in r ≡ s) → a ≡ b
err_is a b e = cc

guarded_fails : {A : Type 0} (b : Bool) (x : A) (e : LineFault) → FailsAs e (cond b (Ok x) (Err e))
guarded_fails true x e f is = absurd (ok_err is)
guarded_fails false x e f is = sym (err_is e f is)

-- ---- numbers

ranged_fails : (low high : ℕ) (word : List ℕ) → FailsAs fault.Number (ranged low high word)
unfolding ranged
ranged_fails low high word = by (number_of word) where
  by : (o : Option ℕ) → FailsAs fault.Number (within low high o)
  by None f is = sym (err_is fault.Number f is)
  by (Some k) f is = guarded_fails (nat_le low k && nat_le k high) k fault.Number f is

pub ranged_told : (low high : ℕ) (word : List ℕ) → ((n : ℕ) × (ranged low high word ≡ Ok n)) ⊎ (ranged low high word ≡ Err fault.Number)
ranged_told low high word = told (ranged low high word) fault.Number (ranged_fails low high word)

-- a word that is refused as a number is none of that range
pub no_number : (low high : ℕ) (word : List ℕ) → ranged low high word ≡ Err fault.Number → (n : ℕ) → ¬ IsWithin low high word n
no_number low high word is n h = ok_err (sym (ranged_is low high word n h) ∙ is)

-- ---- kernels' words

code_step : (b : Bool) (c : Code) (rest : Result Code LineFault) → FailsAs fault.Word rest → FailsAs fault.Word (cond b (Ok c) rest)
code_step true c rest h f is = absurd (ok_err is)
code_step false c rest h f is = h f is

code_fails : (word : List ℕ) → FailsAs fault.Word (code_said word)
unfolding code_said
code_fails word =
    code_step (bytes_eq word (codes "fill")) code.Fill _
    (code_step (bytes_eq word (codes "copy")) code.Copy _
    (code_step (bytes_eq word (codes "rev")) code.Rev _
    (code_step (bytes_eq word (codes "xor")) code.Xor _
    (code_step (bytes_eq word (codes "add")) code.Add _
    (guarded_fails (bytes_eq word (codes "sum")) code.Sum fault.Word)))))

pub code_told : (word : List ℕ) → ((c : Code) × (code_said word ≡ Ok c)) ⊎ (code_said word ≡ Err fault.Word)
code_told word = told (code_said word) fault.Word (code_fails word)

-- ---- digits

sized_fails : (len : ℕ) (word : List ℕ) → FailsAs fault.Hex (sized_said len word)
unfolding sized_said
sized_fails len word = by (decode_sized word len) where
  by : (r : Result (List ℕ) FromHexError) → FailsAs fault.Hex (decoded r)
  by (Ok bytes) f is = absurd (ok_err is)
  by (Err e) f is = sym (err_is fault.Hex f is)

pub sized_told : (len : ℕ) (word : List ℕ) → ((bytes : List ℕ) × (sized_said len word ≡ Ok bytes)) ⊎ (sized_said len word ≡ Err fault.Hex)
sized_told len word = told (sized_said len word) fault.Hex (sized_fails len word)

pub no_bytes : (len : ℕ) (word : List ℕ) → sized_said len word ≡ Err fault.Hex → (bytes : List ℕ) → length word ≡ 2 * len → ¬ Spells word bytes
no_bytes len word is bytes two h = ok_err (sym (sized_is len word bytes two h) ∙ is)

some_fails : (word : List ℕ) → FailsAs fault.Hex (some_said word)
unfolding some_said
some_fails word = by (decode_of word) where
  by : (r : Result (List ℕ) FromHexError) → FailsAs fault.Hex (decoded_some r)
  by (Ok []) f is = sym (err_is fault.Hex f is)
  by (Ok (b ∷ bytes)) f is = absurd (ok_err is)
  by (Err e) f is = sym (err_is fault.Hex f is)

pub some_told : (word : List ℕ) → ((bytes : List ℕ) × (some_said word ≡ Ok bytes)) ⊎ (some_said word ≡ Err fault.Hex)
some_told word = told (some_said word) fault.Hex (some_fails word)

pub no_some : (word : List ℕ) → some_said word ≡ Err fault.Hex → (bytes : List ℕ) → 1 ≤ length bytes → ¬ Spells word bytes
no_some word is bytes low h = ok_err (sym (some_is word bytes h low) ∙ is)

short_fails : (bytes : List ℕ) → FailsAs fault.TooLong (short_said bytes)
unfolding short_said
short_fails bytes = guarded_fails (nat_le (length bytes) 64) bytes fault.TooLong

pub short_told : (bytes : List ℕ) → ((short : List ℕ) × (short_said bytes ≡ Ok short)) ⊎ (short_said bytes ≡ Err fault.TooLong)
short_told bytes = told (short_said bytes) fault.TooLong (short_fails bytes)
