-- Which fields are a kernel dispatch's.
use Rattle.std.specs.Prelude.{◌≡◌, List, ◌∷◌, length, None, nat_le}
use Rattle.hq_packet.specs.declared.fault.PacketFault.TheVariants.{ReservedField}
use Rattle.hq_packet.specs.declared.packet.Kernel.{Kernel}
use Rattle.hq_packet.specs.declared.packet.KernelFields.{KernelFields}
use Rattle.hq_packet.specs.Faults.{Test, first_of, size_tests}

-- the fields of a dispatch
abbrev pub fields_of : Kernel → KernelFields
fields_of k = record {
  head = k.head;
  dimensions = k.dimensions;
  group = k.group;
  grid = k.grid;
  private_size = k.private_size;
  group_size = k.group_size;
  object = k.object;
  kernarg = k.kernarg;
  completion = k.completion;
}

-- what may be wrong with fields, in the order of a packet's faults: only the lower two bits of setup aren't reserved
abbrev pub field_tests : KernelFields → List Test
field_tests fields = (nat_le 4 fields.dimensions, ReservedField 2)
    ∷ size_tests fields.dimensions fields.group fields.grid

-- The fields of a dispatch have no fault.
abbrev pub FaultlessFields : Type 0
FaultlessFields = (k : Kernel) → length k.group ≡ 3 → length k.grid ≡ 3 → first_of (field_tests (fields_of k)) ≡ None

-- Fields are those of one dispatch.
abbrev pub OneDispatch : Type 0
OneDispatch = (k j : Kernel) → fields_of k ≡ fields_of j → k ≡ j
