-- What `pack` writes.
use Rattle.std.specs.Prelude.{◌≡◌, ℕ, ◌⊎◌, List, [], Some, codes}
use Rattle.hex.specs.Hex.{encode_lower}
use Rattle.hq_packet.specs.declared.fault.PacketFault.{PacketFault}
use Rattle.hq_packet.specs.declared.packet.Packet.{Packet}
use Rattle.hq_packet.specs.PacketText.{PacketText}
use Rattle.hq_report.specs.Texts.{packet_refusal}
use Rattle.hq_showing.specs.Pack.{Say, fields_in, fields_fault}
use Rattle.hq_status.specs.Reports.{with_feed}
use Rattle.hq_showing.specs.declared.fields.Fields.{Fields}
use Rattle.hq_status.specs.declared.status.Status.{Status}
use Rattle.hq_status.specs.declared.status.Status.TheVariants.{Done, Words, PacketRefused, Memory}

-- What is written of fields: the digits of the packet that has them, or why none has them.
pub data FieldsReport (fields : Fields) : List ℕ → Status → Type 0 where
  spells : (packet : Packet) (bytes : List ℕ) → fields_in packet ≡ fields → PacketText bytes packet
      → FieldsReport fields (with_feed (encode_lower bytes)) Done
  refused : (fault : PacketFault) → fields_fault fields ≡ Some fault
      → FieldsReport fields (with_feed (packet_refusal fault)) (PacketRefused fault)
  no_memory : FieldsReport fields (with_feed (codes "out of memory")) Memory

-- What `pack` writes of its words: the report of the fields that they say; or nothing, where they say none.
pub data PackReport (words : List (List ℕ)) : List ℕ → Status → Type 0 where
  packs : {out : List ℕ} {status : Status} (fields : Fields) → Say words fields → FieldsReport fields out status
      → PackReport words out status
  no_fields : ((fields : Fields) → Say words fields → ⊥) → PackReport words [] Words

-- Words have one report: two are the same, or memory ran out for one of them.
abbrev pub OneReport : Type 0
OneReport = (words : List (List ℕ)) (out other : List ℕ) (status answered : Status)
    → PackReport words out status → PackReport words other answered
    → ((out ≡ other) × (status ≡ answered)) ⊎ ((status ≡ Memory) ⊎ (answered ≡ Memory))
