-- What two runs are to show: a conflict that isn't ordered, and the bytes that it may be about.
use Rattle.std.specs.Prelude.{ℕ, List}
use Rattle.hq_audit.specs.declared.directed.Unshown.{Unshown}
use Rattle.hq_finding.specs.declared.kind.Kind.{Kind}
use Rattle.hq_finding.specs.declared.kind.Kind.TheVariants as kind
use Rattle.hq_model.specs.Job.{Packet}
use Rattle.hq_witness.specs.declared.target.Target.{Target}

-- what the packet that writes writes, where both write the first
abbrev pub written_bytes : Kind → Packet → Packet → List ℕ
written_bytes kind.WriteRead p r = p.writes
written_bytes kind.WriteWrite p r = p.writes
written_bytes kind.ReadWrite p r = r.writes

-- what the other one reads or writes
abbrev pub other_bytes : Kind → Packet → Packet → List ℕ
other_bytes kind.WriteRead p r = r.reads
other_bytes kind.WriteWrite p r = r.writes
other_bytes kind.ReadWrite p r = p.reads

-- the conflict, as an audit tells of it
abbrev pub unshown_of : Target → Unshown
unshown_of t = record { p = t.p; r = t.r; fault = record { kind = t.kind; why = t.why } }
