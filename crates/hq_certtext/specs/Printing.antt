-- What a printer has printed.
use Rattle.std.specs.Prelude.{ℕ, ◌≤◌, List, [], ◌++◌, Option, length, take}
use Rattle.std.specs.Io.KnownBytes.{Appends, append_known}
use Rattle.hq_certtext.specs.declared.printer.Printer.{Printer}

-- its buffer has room for a line, and ends behind what is in it
pub record IsReady (p : Printer) : Type 0 where
  pub long : 256 ≤ length p.bytes.items
  pub within : p.at ≤ length p.bytes.items

-- What the writer holds (v), with what is still in the buffer behind it, is what it held before (w) and this text.
abbrev pub HasPrinted : Option (List ℕ) → List ℕ → Option (List ℕ) → Printer → Type 0
HasPrinted w text v p = Appends w (append_known v (take p.at p.bytes.items)) text

-- Nothing is in its buffer: the writer, whatever it holds, holds all that was printed.
abbrev pub IsEmpty : Printer → Type 0
IsEmpty p = (w : Option (List ℕ)) → HasPrinted w [] w p

-- Behind what was printed, this text was printed.
abbrev pub Prints : Option (List ℕ) → Printer → Option (List ℕ) → Printer → List ℕ → Type 0
Prints u old v new more = (w : Option (List ℕ)) (text : List ℕ) → HasPrinted w text u old
    → HasPrinted w (text ++ more) v new
