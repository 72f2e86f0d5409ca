-- What an origin and a place of the code are in the model.
use Rattle.hq_witness.specs.declared.origin.Origin.{Origin}
use Rattle.hq_witness.specs.declared.origin.Origin.TheVariants as own
use Rattle.hq_witness.specs.declared.place.Place.{Place}
use Rattle.hq_witness.specs.declared.place.Place.TheVariants as place
use Rattle.std.specs.Prelude.{◌<◌, length}
use Rattle.hq_model.specs.Job.{Job, packet, IsPacket}
use Rattle.hq_model.specs.Machine.{IsByte}
use Rattle.hq_model.specs.Origins as model

-- the same origin, as the model has it
abbrev pub named : Origin → model.Origin
named own.Start = model.Origin.Start
named (own.StoredBy p) = model.Origin.StoredBy p

-- the origin that a place has
abbrev pub origin_at : model.Origins → Place → model.Origin
origin_at o (place.Read p i) = o.read p i
origin_at o (place.Memory b) = o.memory b

-- The packet reads such an entry, or memory has such a byte.
abbrev pub IsPlace : Job → Place → Type 0
IsPlace job (place.Read p i) = IsPacket job p × (i < length (packet job p).reads)
IsPlace job (place.Memory b) = IsByte job b
