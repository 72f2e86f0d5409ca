use Rattle.hq_showing.proofs.Packs.{packet_reported}
use Rattle.hq_showing.specs.Packing.FieldsReport.{refused}
use Rattle.hq_showing.proofs.pack.say_fields.Goals as goal

pub returns-in-Ok : goal.returns-in-Ok
returns-in-Ok g c = packet_reported _ c.in-Ok.packet _ _ _ _ _ c.in-Ok.ensures c.encode.ensures.spelled c.as_slice.ensures c.say_digits.ensures

pub returns-in-Err : goal.returns-in-Err
returns-in-Err g c = (_, _, refused c.in-Err.fault c.in-Err.ensures, c.say.ensures)
