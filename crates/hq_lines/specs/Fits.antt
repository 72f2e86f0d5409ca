-- The ranges of what a line says.
use Rattle.std.specs.Prelude.{ℕ, ◌-◌, ◌^◌, ◌≤◌, length}
use Rattle.hq_text.specs.Names.{IsName}
use Rattle.hq_lines.specs.declared.limits.TheConstants.{BLOCK, BUFFER, SLOTS}
use Rattle.hq_lines.specs.Meaning.{Meaning, Agent, Buffer, Args, Signal, Kernel, Queue, To, Packet, End}
use Rattle.hq_lines.specs.Says.{IsPower}

-- at least low and at most high
pub record Between (low high n : ℕ) : Type 0 where
  pub from : low ≤ n
  pub upto : n ≤ high

-- names are right, numbers and counts of bytes are in the ranges of their lines, and a queue's size is a power of two
abbrev pub Fits : Meaning → Type 0
Fits (Agent name) = IsName name
Fits (Buffer name at bytes) = IsName name × Between 1 (2 ^ 48) at × Between 1 BUFFER (length bytes)
Fits (Args name at bytes) = IsName name × Between 1 (2 ^ 64 - 1) at × Between 1 BLOCK (length bytes)
Fits (Signal name handle start) = IsName name × Between 1 (2 ^ 64 - 1) handle × (start ≤ 2 ^ 63 - 1)
Fits (Kernel name object code) = IsName name × Between 1 (2 ^ 64 - 1) object
Fits (Queue name owner size) = IsName name × IsName owner × Between 1 SLOTS size × IsPower size
Fits (To name) = IsName name
Fits (Packet p) = Unit {0}
Fits End = Unit {0}
