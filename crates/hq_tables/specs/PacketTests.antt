-- What each part of the code that tests a packet answers.
use Rattle.std.specs.Prelude.{◌≡◌, ◌⊎◌, List, Result, Ok, Err}
use Rattle.hq_packet.specs.declared.packet.Packet as packet
use Rattle.hq_footprint.specs.declared.fault.FootFault.{FootFault}
use Rattle.hq_footprint.specs.declared.footprint.Work.{Work}
use Rattle.hq_tables.specs.declared.fault.Reason.{Reason}
use Rattle.hq_tables.specs.declared.fault.Reason.TheVariants as reason
use Rattle.hq_tables.specs.Tables.{Tables, Test, IsFirst, NoneApplies, call_tests, work_of}

-- What a check of some tests answers: that none applies, or the first that does, unless memory ran out.
abbrev pub Checks : {A : Type 0} → Result A Reason → List Test → Type 0
Checks (Ok x) ts = NoneApplies ts
Checks (Err e) ts = (e ≡ reason.Memory) ⊎ IsFirst ts e

-- What a packet does, or why that cannot be told.
abbrev pub Calls : Result Work FootFault → Tables → packet.Packet → Type 0
Calls (Ok work) ts p = (work ≡ work_of ts p) × NoneApplies (call_tests ts p)
Calls (Err e) ts p = IsFirst (call_tests ts p) (reason.Footprint e)
