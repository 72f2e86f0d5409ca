-- What a function returned, against what reading gives, unless memory ran out.
use Rattle.std.specs.Prelude.{◌≡◌, Result, Ok, Err}
use Rattle.hq_lines.specs.declared.fault.LineFault.{LineFault}
use Rattle.hq_lines.specs.declared.fault.LineFault.TheVariants as fault

-- the fault is what reading gives, where it isn't that memory ran out
abbrev pub Fails : {Y : Type 0} → LineFault → Result Y LineFault → Type 0
Fails fault.Byte read = read ≡ Err fault.Byte
Fails fault.Word read = read ≡ Err fault.Word
Fails fault.Number read = read ≡ Err fault.Number
Fails fault.Hex read = read ≡ Err fault.Hex
Fails (fault.Packet f) read = read ≡ Err (fault.Packet f)
Fails fault.QueueSize read = read ≡ Err fault.QueueSize
Fails fault.TooLong read = read ≡ Err fault.TooLong
Fails fault.Memory read = Unit {0}

-- the value, seen by view, or the fault
abbrev pub Gives : {X Y : Type 0} → (X → Y) → Result X LineFault → Result Y LineFault → Type 0
Gives view (Ok x) read = read ≡ Ok (view x)
Gives view (Err e) read = Fails e read
