use Rattle.std.proofs.Common.{inl, refl, []}
use Rattle.hq_showing.specs.Packing.PackReport.{packs, no_fields}
use Rattle.hq_status.specs.declared.status.Status.TheVariants.{Words}
use Rattle.hq_status.proofs.Appending.{appends_none}
use Rattle.hq_showing.proofs.pack.pack_engine.Goals as goal

pub returns-in-Some : goal.returns-in-Some
returns-in-Some g c = let said = c.say_fields.ensures in (said.0, said.1, packs c.in-Some.fields c.in-Some.ensures said.2, said.3)

pub returns-in-None : goal.returns-in-None
returns-in-None g c = ([], Words, no_fields c.in-None.ensures, inl (refl, appends_none _))
