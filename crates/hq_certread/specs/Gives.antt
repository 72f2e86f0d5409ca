-- What a function returned, against what the tests give, unless memory ran out.
use Rattle.std.specs.Prelude.{◌≡◌, ℕ, ◌+◌, ◌⊎◌, List, length, Result, Ok, Err}
use Rattle.hq_text.specs.LineByLine.{AdmitsAll, FirstRefused}
use Rattle.hq_model.specs.Certificate as model
use Rattle.hq_certread.specs.declared.fault.CertReason.{CertReason}
use Rattle.hq_certread.specs.declared.fault.CertReason.TheVariants as reason
use Rattle.hq_certread.specs.declared.fault.CertFault.{CertFault}
use Rattle.hq_certtext.specs.Grammar.{CertText}
use Rattle.hq_certread.specs.TextFaults.{State, added, FirstFault, at_line}

-- the fault is what the tests give, where it isn't that memory ran out
abbrev pub Fails : {Y : Type 0} → CertReason → Result Y CertReason → Type 0
Fails reason.Word read = read ≡ Err reason.Word
Fails reason.Number read = read ≡ Err reason.Number
Fails reason.Citation read = read ≡ Err reason.Citation
Fails reason.NoEnd read = read ≡ Err reason.NoEnd
Fails reason.Memory read = Unit {0}

-- the value, seen by view, or the fault
abbrev pub Gives : {X Y : Type 0} → (X → Y) → Result X CertReason → Result Y CertReason → Type 0
Gives view (Ok x) read = read ≡ Ok (view x)
Gives view (Err e) read = Fails e read

-- out of memory, at line 0
abbrev pub no_memory : CertFault
no_memory = at_line 0 reason.Memory

-- What parsing answers, against the certificate of the text: that one, unless memory ran out.
abbrev pub GivesCertificate : {X : Type 0} → (X → model.Certificate) → Result X CertFault → model.Certificate → Type 0
GivesCertificate view (Ok c) certificate = view c ≡ certificate
GivesCertificate view (Err f) certificate = f ≡ no_memory

-- What taking in all of these lines answers, behind so many lines that left the old state: how many there are then,
-- or the first fault.
abbrev pub TakesAll : Result ℕ CertFault → ℕ → List (List ℕ) → State → State → Type 0
TakesAll (Ok n) before lines old new = (n ≡ before + length lines) × AdmitsAll added old lines new
TakesAll (Err f) before lines old new = (f ≡ no_memory) ⊎ FirstRefused added old lines before f.line f.reason

-- What reading a text of these lines answers: its certificate, or its first fault, unless memory ran out.
abbrev pub ReadOf : Result model.Certificate CertFault → List (List ℕ) → Type 0
ReadOf (Ok c) lines = CertText lines c
ReadOf (Err f) lines = (f ≡ no_memory) ⊎ FirstFault lines f
