-- What a line says, as a value without where it lies in memory.
use Rattle.std.specs.Prelude.{ℕ, List}
use Rattle.hq_footprint.specs.declared.task.Code.{Code}
use Rattle.hq_packet.specs.declared.packet.Packet as packet
use Rattle.hq_lines.specs.declared.line.Line as rust
use Rattle.hq_lines.specs.declared.line.Line.TheVariants as line

-- names are the lists of their characters
pub data Meaning : Type 0 where
  Agent : List ℕ → Meaning
  Buffer : List ℕ → ℕ → List ℕ → Meaning
  Args : List ℕ → ℕ → List ℕ → Meaning
  Signal : List ℕ → ℕ → ℕ → Meaning
  Kernel : List ℕ → ℕ → Code → Meaning
  Queue : List ℕ → List ℕ → ℕ → Meaning
  To : List ℕ → Meaning
  Packet : packet.Packet → Meaning
  End : Meaning

-- what a line that was read says
abbrev pub view : rust.Line → Meaning
view (line.Agent name) = Agent name
view (line.Buffer name at bytes) = Buffer name at bytes.items
view (line.Args name at bytes) = Args name at bytes.items
view (line.Signal name handle start) = Signal name handle start
view (line.Kernel name object code) = Kernel name object code
view (line.Queue name agent size) = Queue name agent size
view (line.To name) = To name
view (line.Packet p) = Packet p
view line.End = End
