-- What adding what a line says answers and leaves.
use Rattle.std.specs.Prelude.{◌≡◌, ◌⊎◌, Result, Ok, Err}
use Rattle.hq_lines.specs.Meaning.{Meaning}
use Rattle.hq_tables.specs.declared.fault.Reason.{Reason}
use Rattle.hq_tables.specs.declared.fault.Reason.TheVariants as reason
use Rattle.hq_tables.specs.Tables.{Tables, tests, added, NoneApplies, IsFirst}

-- Where no test applies the line adds what it says. Else the tables stay, and the first test that applies is told,
-- or that memory ran out.
abbrev pub Adds : Result (Unit {0}) Reason → Tables → Tables → Meaning → Type 0
Adds (Ok u) old new m = NoneApplies (tests old m) × (new ≡ added old m)
Adds (Err e) old new m = (new ≡ old) × ((e ≡ reason.Memory) ⊎ IsFirst (tests old m) e)
