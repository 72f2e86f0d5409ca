-- What `pack` writes.
use Rattle.std.proofs.Common.{◌≡◌, ℕ, ◌⊎◌, inl, inr, List, Option, subst, codes}
use Rattle.hex.specs.Hex.{encode_lower}
use Rattle.hq_packet.specs.declared.packet.Packet.{Packet}
use Rattle.hq_packet.specs.PacketText.{PacketText}
use Rattle.hq_showing.specs.Pack.{fields_in}
use Rattle.hq_showing.specs.Packing.{FieldsReport}
use Rattle.hq_showing.specs.Packing.FieldsReport.{spells, no_memory}
use Rattle.hq_status.specs.Reports.{Reported, Said, with_feed}
use Rattle.hq_showing.specs.declared.fields.Fields.{Fields}
use Rattle.hq_status.specs.declared.status.Status.{Status}
use Rattle.hq_status.specs.declared.status.Status.TheVariants.{Done, Memory}

pub packet_reported : (fields : Fields) (packet : Packet) (bytes slice : List ℕ) (old new : Option (List ℕ)) (answered : Status) → fields_in packet ≡ fields → PacketText bytes packet → slice ≡ bytes
    → Said old new (with_feed (encode_lower slice)) Done answered ⊎ Said old new (with_feed (codes "out of memory")) Memory answered → Reported (FieldsReport fields) old new answered
packet_reported fields packet bytes slice old new answered has text same (inl said) = (with_feed (encode_lower bytes), Done, spells packet bytes has text, subst (λ bs. Said old new (with_feed (encode_lower bs)) Done answered) same said)
packet_reported fields packet bytes slice old new answered has text same (inr said) = (with_feed (codes "out of memory"), Memory, no_memory, said)
